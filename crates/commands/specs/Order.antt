-- Which commands may come after which. Assumes nothing.
use Rattle.std.specs.Prelude.{◌≡◌, ℕ, Bool, true, false, not, ◌&&◌, ◌||◌, List, [], ◌∷◌, ◌++◌, ◌==◌, slice_index}
use Rattle.commands.specs.declared.command.Command.{Command}
use Rattle.commands.specs.declared.command.Command.TheVariants.{Grammar, Pair, Leaf, Ban, Automaton, Step, Renaming, Reading, Entry, End}
use Rattle.commands.specs.Format.{encode}

-- whether a command begins with the byte
abbrev pub is : ℕ → Command → Bool
is byte c = slice_index (encode c) 0 == byte

-- whether some command of the list begins with the byte
abbrev pub some : ℕ → List Command → Bool
some byte [] = false
some byte (c ∷ cs) = is byte c || some byte cs

-- whether a command came at all
abbrev pub begun : List Command → Bool
begun [] = false
begun (c ∷ cs) = true

-- whether a command came, and the end did not
abbrev pub going : List Command → Bool
going before = begun before && not (some 0x0B before)

-- whether a command came, and neither the end nor an entry did
abbrev pub describing : List Command → Bool
describing before = going before && not (some 0x0A before)

-- whether a command may come after those of the list
abbrev pub allowed : List Command → Command → Bool
allowed before (Grammar n t start) = not (begun before)
allowed before (Pair lhs left right cost) = describing before
allowed before (Leaf lhs code cost) = describing before
allowed before (Ban number) = describing before
allowed before (Automaton q k start accepting) = describing before && not (some 0x05 before)
allowed before (Step from code to) = describing before && some 0x05 before
allowed before (Renaming count) = describing before && not (some 0x07 before)
allowed before (Reading recorder code) = describing before && some 0x07 before
allowed before (Entry codes) = going before
allowed before End = going before

-- each command of `cs` may come where it comes, after `before`
abbrev pub Ordered : List Command → List Command → Type 0
Ordered before [] = Unit {0}
Ordered before (c ∷ cs) = (allowed before c ≡ true) × Ordered (before ++ (c ∷ [])) cs
