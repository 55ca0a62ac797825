-- What is answered to an input. Assumes nothing.
use Rattle.std.specs.Prelude.{◌≡◌, ℕ, List, Some, None, Ok, Err, Option, Result}
use Rattle.grammar.specs.Grammars.{Meaning}
use Rattle.table.specs.Drafts.{sealed}
use Rattle.layers.specs.Ban.{ban}
use Rattle.layers.specs.Intersection.{intersection, intersection_refused}
use Rattle.layers.specs.Renaming.{Recorder, renaming_refused}
use Rattle.commands.specs.declared.fault.Fault.{Fault}
use Rattle.answer.specs.Seen.{Report}
use Rattle.job.specs.Describing.{Described, stack}
use Rattle.job.specs.Outcomes.{Takes, FirstFault}
use Rattle.job.specs.Reports.{Comes}
use Rattle.job.specs.Ways.{InWays}
use Rattle.answer.specs.Lines.{answer_text}

-- a renaming, if there is one, is not refused over the grammar
abbrev pub Renames : Option Recorder → Meaning → Type 0
Renames None m = Unit {0}
Renames (Some c) m = renaming_refused c m ≡ None

-- the layers of the job's grammar are laid without refusal: none has too few codes or is too large
pub record Stacks (d : Described) : Type 0 where
  pub crossed : intersection_refused d.machine (ban d.bans (sealed d.table)) ≡ None
  pub renamed : Renames d.recorder (intersection d.machine (ban d.bans (sealed d.table)))

-- the input is taken, and this is what its entries come to by its grammar; and so by its table, ban, automaton and renaming
pub record Reads (input : List ℕ) (x : Report) : Type 0 where
  pub describes : Described
  pub takes : Takes input describes
  pub stacks : Stacks describes
  pub comes : Comes (stack describes) describes.entries x
  pub ways : InWays describes x

-- the answer is what the entries of the input come to, or its first fault
abbrev pub Answers : List ℕ → Result Report Fault → Type 0
Answers input (Ok x) = Reads input x
Answers input (Err f) = FirstFault input f.refusal f.place

-- the text is that of an answer to the input
pub record Says (input text : List ℕ) : Type 0 where
  pub answer : Result Report Fault
  pub answers : Answers input answer
  pub is : text ≡ answer_text answer
