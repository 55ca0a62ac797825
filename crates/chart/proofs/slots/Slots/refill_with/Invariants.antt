use Rattle.std.proofs.Common.{◌+◌}
use Rattle.grammar.specs.Totals.{by}
use Rattle.entries.specs.Model.{state}
use Rattle.chart.specs.Columns.{Refilled}
use Rattle.chart.proofs.slots.Slots.refill_with.Given as goal

abbrev pub invariant-loop-i : goal.invariant-loop-i
invariant-loop-i g l =
    Refilled g.S.Semiring.ring (by (g.W.Weighing.weight l.weighing)) (g.G.Grammar.meaning l.grammar) (state l.entries).entries l.k (l.k + l.i + 1) l.initial.slots l.slots
