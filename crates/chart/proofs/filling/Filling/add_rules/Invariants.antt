use Rattle.std.proofs.Common.{◌≡◌, take, fold}
use Rattle.grammar.specs.Totals.{by}
use Rattle.chart.specs.Columns.{with_rule}
use Rattle.chart.specs.Sums.{Noted}
use Rattle.chart.proofs.filling.Filling.add_rules.Given as goal

abbrev pub invariant-loop-rule : goal.invariant-loop-rule
invariant-loop-rule g l =
    let f = l.self in
    let s = f.span in
    let ring = g.W.Value.Semiring.ring in record {
      added : l.slots ≡ fold (with_rule ring (by (g.W.Weighing.weight f.weighing.now)) s.cells f.last.bits s.begin s.end) l.initial.slots (take l.rule-index f.rules.now);
      known : Noted ring s l.slots l.sums;
    }
