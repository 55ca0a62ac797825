-- A fault in words. Assumes nothing.
use Rattle.std.specs.Prelude.{ℕ, List, ◌++◌, codes, decimal}
use Rattle.grammar.specs.Refusals.{number}
use Rattle.commands.specs.declared.fault.Fault.{Fault}

-- the number of the refusal, and its place
abbrev pub fault_text : Fault → List ℕ
fault_text f = codes "fault " ++ (decimal (number f.refusal) ++ (codes " " ++ decimal f.place))
