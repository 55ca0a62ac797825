use Rattle.std.proofs.Common.{◌≡◌, ℕ, cond, length, sym, ap, ◌∙◌}
use Rattle.semiring.proofs.Sums.{sum_more}
use Rattle.chart.specs.Cells.{cell_at}
use Rattle.chart.proofs.chart.Chart.start_sum.Goals as goal
use Rattle.chart.proofs.chart.Chart.start_sum.Goals.{then-is_start, else-is_start}

-- a nonterminal that is no start adds nothing
pub loop-a-preserved : goal.loop-a-preserved
loop-a-preserved g c =
    let m = g.G.Grammar.meaning c.args.grammar.now in
    let e = c.args.self.now.entries in
    let xs = c.args.self.now.slots.cells.now in
    let ring = g.S.Semiring.ring in
    let value = λ (A : ℕ). cond (m.start A) (cell_at ring e.nonterminals xs 0 (length e.list.items) A) ring.zero in
    let a = c.loop-a.a in
    let here = cell_at ring e.nonterminals xs 0 (length e.list.items) a in
    let added : c.if-is_start.sum ≡ ring.plus c.loop-a.sum (value a) = elim c.if-is_start.branch [
      | then-is_start w ↦ w.sum-is ∙ w.add-sum.ensures ∙ ap (ring.plus c.loop-a.sum) (w.whole_cell.ensures ∙ sym (ap (λ t. cond t here ring.zero) (sym c.is_start.ensures ∙ w.if-is_start.true)))
      | else-is_start w ↦ w.sum-is ∙ sym (ap (ring.plus c.loop-a.sum) (ap (λ t. cond t here ring.zero) (sym c.is_start.ensures ∙ w.if-is_start.false)) ∙ g.met.S.Semiring.laws.plus_zero c.loop-a.sum)
    ] in
    added ∙ ap (λ x. ring.plus x (value a)) c.loop-a.invariant ∙ sym (sum_more ring a value)
