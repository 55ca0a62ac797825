use Rattle.std.proofs.Common.{◌≡◌, ◌+◌, ◌-◌, ap, ◌∙◌, rules}
use Rattle.semiring.specs.Semirings.{sum_below}
use Rattle.semiring.proofs.Sums.{sum_none}
use Rattle.grammar.specs.Spans.{share, cut_term}
use Rattle.grammar.specs.Totals.{by}
use Rattle.chart.specs.Cells.{cell_at, cut_product}
use Rattle.chart.proofs.Rows.{times-sum}
use Rattle.chart.proofs.filling.Filling.share.Goals as goal

-- one entry has no cut
pub returns-then-is_single-clause-share : goal.returns-then-is_single-clause-share
returns-then-is_single-clause-share g c =
    let f = c.args.self.now in
    let s = f.span in
    let ring = g.W.Value.Semiring.ring in
    let weight = by (g.W.Weighing.weight f.weighing.now) c.args.rule.now in
    let cell = cell_at ring s.cells c.args.slots.now in
    let none : s.end - (s.begin + 1) ≡ 0 = search rules in
    let term = cut_term ring cell weight s.begin s.end c.in-Pair.left c.in-Pair.right in
    ap (share ring cell weight f.last.bits s.begin s.end) c.in-Pair.is ∙ ap (λ k. sum_below ring k term) none ∙ sum_none ring term

-- the weight times the sum over the cuts
pub returns-else-is_single-clause-share : goal.returns-else-is_single-clause-share
returns-else-is_single-clause-share g c =
    let f = c.args.self.now in
    let s = f.span in
    let ring = g.W.Value.Semiring.ring in
    let weight = by (g.W.Weighing.weight f.weighing.now) c.args.rule.now in
    let cell = cell_at ring s.cells c.args.slots.now in
    let product = cut_product ring cell s.begin s.end c.in-Pair.left c.in-Pair.right in
    let shared = times-sum g.met.W.Value.Semiring.laws weight (s.end - (s.begin + 1)) product in
    let is = ap (share ring cell weight f.last.bits s.begin s.end) c.in-Pair.is in
    cc
