use Rattle.std.proofs.Common.{length, ◌≡◌, ℕ, cond}
use Rattle.semiring.specs.Semirings.{sum_below}
use Rattle.chart.specs.Cells.{cell_at}
use Rattle.chart.proofs.chart.Chart.start_sum.Given as goal

abbrev pub invariant-loop-a : goal.invariant-loop-a
invariant-loop-a g l =
    let ring = g.S.Semiring.ring in
    let m = g.G.Grammar.meaning l.grammar in
    l.sum ≡ sum_below ring l.a (λ (A : ℕ). cond (m.start A) (cell_at ring l.self.entries.nonterminals l.self.slots.cells.now 0 (length l.self.entries.list.items) A) ring.zero)
