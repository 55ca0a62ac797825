use Rattle.std.proofs.Common.{◌≡◌, ◌+◌, ◌-◌, subst, arith}
use Rattle.grammar.specs.Totals.{by}
use Rattle.chart.specs.Columns.{Column}
use Rattle.chart.proofs.ColumnSteps.{column_more}
use Rattle.chart.proofs.column.Column.fill_rows.Goals as goal

pub loop-begin-preserved : goal.loop-begin-preserved
loop-begin-preserved g c =
    let f = c.args.self.now.widest in
    let l = c.loop-begin in
    let xs = c.args.slots.now in
    let m = g.G.Grammar.meaning f.grammar.now in
    let w = by (g.W.Weighing.weight f.weighing.now) in
    let back : l.begin ≡ l.begin - 1 + 1 = omega arith in
    record {
      column = column_more g.met.W.Value.Semiring.laws w m f.last.bits c.args.self.now.upto f.span.end (g.G.Grammar.shown f.grammar.now) (l.begin - 1) (omega arith)
          l.slots c.fill_row.new.slots c.fill_row.ensures.row xs
          (subst (λ b. Column g.W.Value.Semiring.ring w m f.last.bits b c.args.self.now.upto f.span.end xs l.slots) back l.invariant.column);
      later = c.fill_row.ensures.later;
    }
