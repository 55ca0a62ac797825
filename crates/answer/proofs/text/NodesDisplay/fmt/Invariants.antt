use Rattle.std.proofs.Common.{take}
use Rattle.std.specs.Fmt.{IsPlainFormatter, HasWritten}
use Rattle.answer.specs.Lines.{node_lines}
use Rattle.answer.proofs.text.NodesDisplay.fmt.Given as goal

abbrev pub invariant-loop-begin : goal.invariant-loop-begin
invariant-loop-begin g l = IsPlainFormatter l.initial.f → HasWritten g.W.Write.write_str_gives l.initial.f (node_lines (take l.begin-index l.self.records.now)) l.f
