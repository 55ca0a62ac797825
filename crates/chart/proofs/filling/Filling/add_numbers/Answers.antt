use Rattle.std.proofs.Common.{◌≡◌, length, subst}
use Rattle.grammar.specs.Totals.{by}
use Rattle.chart.specs.Cells.{Room}
use Rattle.chart.specs.Columns.{with_any}
use Rattle.chart.proofs.Rows.{row_more}
use Rattle.chart.proofs.filling.Filling.add_numbers.Goals as goal

pub loop-number-preserved : goal.loop-number-preserved
loop-number-preserved g c =
    let f = c.args.self.now in
    let s = f.span in
    let l = c.loop-number in
    let m = g.G.Grammar.meaning f.grammar.now in
    let ring = g.W.Value.Semiring.ring in
    let weigh = by (g.W.Weighing.weight f.weighing.now) in
    let zs = c.add_number.new.slots in
    record {
      rows = λ xs before.
          row_more g.met.W.Value.Semiring.laws weigh m f.last.bits s.begin s.end xs l.number l.slots (l.invariant.rows xs before) zs s.some
          (subst (λ n. Room n s.end (length l.slots)) f.own l.invariant.known.here.room)
          (g.G.Grammar.shown f.grammar.now)
          (subst (λ n. zs ≡ with_any ring weigh n f.last.bits s.begin s.end l.slots (m.rule l.number)) f.own c.add_number.ensures.added);
      known = c.add_number.ensures.known;
    }
