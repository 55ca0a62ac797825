-- What every input comes to: it is taken, and describes a grammar and entries, or it has a first fault. Assumes nothing.
use Rattle.std.specs.Prelude.{◌≡◌, ℕ, ◌<◌, ◌≤◌, ◌⊎◌, List, [], ◌∷◌, ◌++◌, length, Some}
use Rattle.grammar.specs.declared.refusal.Refusal.{Refusal}
use Rattle.grammar.specs.declared.refusal.Refusal.TheVariants.{BadJob}
use Rattle.commands.specs.declared.command.Command.{Command}
use Rattle.commands.specs.Format.{encode, encodes}
use Rattle.commands.specs.Order.{Ordered}
use Rattle.commands.specs.Jobs.{Job, Breaks}
use Rattle.job.specs.Describing.{Described, nothing, refusal, describe, Passes}

-- the input is a job none of whose commands is refused, and d is what they describe
pub record Takes (input : List ℕ) (d : Described) : Type 0 where
  pub commands : List Command
  pub job : Job input commands
  pub passes : Passes nothing commands
  pub describes : d ≡ describe nothing commands

-- at the place there is a command that may come there and is refused, after commands that are not
pub record Refuses (input : List ℕ) (why : Refusal) (place : ℕ) : Type 0 where
  pub short : length input ≤ 4096
  pub before : List Command
  pub command : Command
  pub rest : List ℕ
  pub split : input ≡ encodes before ++ (encode command ++ rest)
  pub ordered : Ordered [] (before ++ (command ∷ []))
  pub passes : Passes nothing before
  pub refused : refusal (describe nothing before) command ≡ Some why
  pub here : place ≡ length (encodes before)

-- the first fault of the input: it is too long; or it breaks the rules, after commands that are not refused; or a command is refused
abbrev pub FirstFault : List ℕ → Refusal → ℕ → Type 0
FirstFault input why place =
    ((4096 < length input) × (why ≡ BadJob) × (place ≡ 4096))
    ⊎ (((b : Breaks input place) × Passes nothing b.before × (why ≡ BadJob))
    ⊎ Refuses input why place)

-- the input describes one thing at most, or has one first fault at most, and not both
pub record OneOutcome (input : List ℕ) : Type 0 where
  pub one_description : (d e : Described) → Takes input d → Takes input e → d ≡ e
  pub not_both : (d : Described) (why : Refusal) (p : ℕ) → Takes input d → FirstFault input why p → ⊥
  pub one_fault : (why other : Refusal) (p q : ℕ) → FirstFault input why p → FirstFault input other q → (why ≡ other) × (p ≡ q)
