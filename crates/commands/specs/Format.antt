-- The commands of a job as bytes. Assumes nothing.
use Rattle.std.specs.Prelude.{◌≡◌, ℕ, ◌/◌, ◌%◌, ◌^◌, List, [], ◌∷◌, ◌++◌}
use Rattle.commands.specs.declared.command.Command.{Command}
use Rattle.commands.specs.declared.command.Command.TheVariants.{Grammar, Pair, Leaf, Ban, Automaton, Step, Renaming, Reading, Entry, End}

-- a number in two bytes, the high one first
abbrev pub two : ℕ → List ℕ
two n = (n / 256) ∷ (n % 256) ∷ []

-- a number in four bytes, the high one first
abbrev pub four : ℕ → List ℕ
four n = (n / 2 ^ 24) ∷ (n / 2 ^ 16 % 256) ∷ (n / 2 ^ 8 % 256) ∷ (n % 256) ∷ []

-- the bytes of a command: its own, and those of its operands
abbrev pub encode : Command → List ℕ
encode (Grammar n t start) = 0x01 ∷ n ∷ t ∷ start ∷ []
encode (Pair lhs left right cost) = 0x02 ∷ lhs ∷ left ∷ right ∷ two cost
encode (Leaf lhs code cost) = 0x03 ∷ lhs ∷ code ∷ two cost
encode (Ban number) = 0x04 ∷ two number
encode (Automaton q k start accepting) = 0x05 ∷ q ∷ k ∷ start ∷ accepting ∷ []
encode (Step from code to) = 0x06 ∷ from ∷ code ∷ to ∷ []
encode (Renaming count) = 0x07 ∷ count ∷ []
encode (Reading recorder code) = 0x08 ∷ recorder ∷ code ∷ []
encode (Entry codes) = 0x0A ∷ four codes
encode End = 0x0B ∷ []

-- the bytes of several commands
abbrev pub encodes : List Command → List ℕ
encodes [] = []
encodes (c ∷ cs) = encode c ++ encodes cs

-- bs begins with the command c, and rest follows it
abbrev pub Begins : List ℕ → Command → List ℕ → Type 0
Begins bs c rest = bs ≡ encode c ++ rest

-- bs begins with no command: an unknown byte, or cut operands, or nothing
abbrev pub NoCommand : List ℕ → Type 0
NoCommand bs = (c : Command) (rest : List ℕ) → Begins bs c rest → ⊥
