-- How far a job has been read and described, and what reading it to the end comes to. Assumes nothing.
use Rattle.std.specs.Prelude.{◌≡◌, ℕ, true, List, Ok, Err, Result}
use Rattle.commands.specs.declared.command.Command.{Command}
use Rattle.commands.specs.declared.fault.Fault.{Fault}
use Rattle.commands.specs.declared.reader.Reader.{Reader}
use Rattle.commands.specs.Order.{begun}
use Rattle.commands.specs.Readers.{HasRead}
use Rattle.job.specs.Describing.{Described, nothing, describe, Passes}
use Rattle.job.specs.Outcomes.{Takes, FirstFault}

-- what a reader reads
abbrev pub input_of : Reader → List ℕ
input_of r = r.input.now

-- the reader has read commands that declare a grammar and are not refused, and d is what they describe
pub record Loading (r : Reader) (d : Described) : Type 0 where
  pub before : List Command
  pub read : HasRead r before
  pub begun : begun before ≡ true
  pub passes : Passes nothing before
  pub describes : d ≡ describe nothing before

-- the input was read to its end, and d is what it describes; or it has a first fault
abbrev pub Loaded : List ℕ → Described → Result (Unit {0}) Fault → Type 0
Loaded input d (Ok u) = Takes input d
Loaded input d (Err f) = FirstFault input f.refusal f.place
