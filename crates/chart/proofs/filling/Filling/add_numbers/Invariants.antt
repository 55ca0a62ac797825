use Rattle.std.proofs.Common.{List}
use Rattle.grammar.specs.Totals.{by}
use Rattle.chart.specs.Columns.{Row}
use Rattle.chart.specs.Sums.{Noted}
use Rattle.chart.proofs.filling.Filling.add_numbers.Given as goal

abbrev pub invariant-loop-number : goal.invariant-loop-number
invariant-loop-number g l =
    let f = l.self in
    let s = f.span in
    let ring = g.W.Value.Semiring.ring in
    let row = Row ring (by (g.W.Weighing.weight f.weighing.now)) (g.G.Grammar.meaning f.grammar.now) f.last.bits s.begin s.end in record {
      rows : (xs : List g.row.W-Value.Denot) → row f.next xs l.initial.slots → row l.number xs l.slots;
      known : Noted ring s l.slots l.sums;
    }
