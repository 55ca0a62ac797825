use Rattle.std.proofs.Common.{subst}
use Rattle.grammar.specs.Totals.{by}
use Rattle.chart.specs.Columns.{Cleared}
use Rattle.chart.proofs.ColumnSteps.{column_none}
use Rattle.chart.proofs.column.Column.fill_with.Goals as goal

pub fill_rows-requires-clause-zero : goal.fill_rows-requires-clause-zero
fill_rows-requires-clause-zero g c =
    let f = c.args.self.now.widest in
    let ring = g.W.Value.Semiring.ring in
    let ys = c.clear.new.slots in
    column_none g.met.W.Value.Semiring.laws (by (g.W.Weighing.weight f.weighing.now)) (g.G.Grammar.meaning f.grammar.now) f.last.bits c.args.self.now.upto f.span.end c.args.slots.now ys
    (subst (λ n. Cleared ring n f.span.end c.args.self.now.upto c.args.slots.now ys) f.own c.clear.ensures)
