use Rattle.std.proofs.Common.{ℕ, ◌<◌, sym, subst, rules}
use Rattle.tree.specs.Steps.{ChartRival, PickedOne}
use Rattle.tree.proofs.Choosing.{picked_of}
use Rattle.tree.proofs.Finding.{first_mapped}
use Rattle.tree.proofs.reading.Reading.first_rival.Goals as goal

pub returns : goal.returns
returns g c =
    let a = c.args in
    let m = g.G.Grammar.meaning a.self.now.grammar.now in
    let shown = g.G.Grammar.shown a.self.now.grammar.now in
    let R : ℕ → ℕ → Type 0 = ChartRival (g.W.Weighing.weight a.self.now.weighing.now) m a.self.now.chart.now a.node in
    picked_of R m c.bound.result (λ i k r. subst (λ n. i < n) (sym c.bound.ensures) (shown.rules i r.rule r.there).numbered) c.find_map.result
    (first_mapped _ _ (λ i p. PickedOne R m i p) (λ i. (k : ℕ) → R i k → ⊥) (λ x r q k. search rules) (λ x y k. search rules) (λ x k. search rules) _ _ c.find_map.ensures.runs)
