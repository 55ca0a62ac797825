use Rattle.grammar.specs.Totals.{by}
use Rattle.chart.specs.Columns.{Column}
use Rattle.chart.specs.Sums.{Later}
use Rattle.chart.proofs.column.Column.fill_rows.Given as goal

abbrev pub invariant-loop-begin : goal.invariant-loop-begin
invariant-loop-begin g l =
    let f = l.self.widest in record {
      column : Column g.W.Value.Semiring.ring (by (g.W.Weighing.weight f.weighing.now)) (g.G.Grammar.meaning f.grammar.now) f.last.bits l.begin l.self.upto f.span.end l.initial.slots l.slots;
      later : Later l.begin l.sums;
    }
