-- Which inputs are jobs, and where the others break the rules. Assumes nothing.
use Rattle.std.specs.Prelude.{◌≡◌, ℕ, ◌<◌, ◌≤◌, true, ◌⊎◌, List, [], ◌∷◌, ◌++◌, length, ◌≢◌}
use Rattle.commands.specs.declared.command.Command.{Command}
use Rattle.commands.specs.declared.command.Command.TheVariants.{End}
use Rattle.commands.specs.Format.{encodes, Begins}
use Rattle.commands.specs.Order.{allowed, Ordered}

-- the last of the commands is the end
abbrev pub Ends : List Command → Type 0
Ends cs = (front : List Command) × (cs ≡ front ++ (End ∷ []))

-- the input is the job of the commands `cs`: at most 4,096 bytes, and these are the commands' bytes; each command may come where it comes, and the last is the end.
-- As nothing may come after the end, it is the only one
pub record Job (input : List ℕ) (cs : List Command) : Type 0 where
  pub short : length input ≤ 4096
  pub bytes : input ≡ encodes cs
  pub ordered : Ordered [] cs
  pub ended : Ends cs

-- the bytes begin with no command that may come after `before`
abbrev pub Stuck : List Command → List ℕ → Type 0
Stuck before bytes = (c : Command) (rest : List ℕ) → Begins bytes c rest → allowed before c ≢ true

-- the input breaks the rules at the place: up to it there are commands that may come where they come, and what follows begins with none that may come there.
-- It begins with an unknown byte, with a command that is cut, or with one out of order; or nothing follows though the end did not come; or something follows the end
pub record Breaks (input : List ℕ) (place : ℕ) : Type 0 where
  pub short : length input ≤ 4096
  pub before : List Command
  pub rest : List ℕ
  pub split : input ≡ encodes before ++ rest
  pub ordered : Ordered [] before
  pub stuck : Stuck before rest
  pub unfinished : Ends before → 0 < length rest
  pub here : place ≡ length (encodes before)

-- the place at which an input that is no job is faulted: 4096 where it is longer than that, else the place at which it breaks the rules
abbrev pub FaultAt : List ℕ → ℕ → Type 0
FaultAt input place = ((4096 < length input) × (place ≡ 4096)) ⊎ Breaks input place

-- the input is the job of one list of commands at most, or is faulted at one place at most, and not both
pub record OneOutcome (input : List ℕ) : Type 0 where
  pub one_job : (cs ds : List Command) → Job input cs → Job input ds → cs ≡ ds
  pub not_both : (cs : List Command) (p : ℕ) → Job input cs → FaultAt input p → ⊥
  pub one_place : (p q : ℕ) → FaultAt input p → FaultAt input q → p ≡ q
