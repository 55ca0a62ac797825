use Rattle.std.proofs.Common.{arith, rules}
use Rattle.tree.specs.Steps.{ChartStart}
use Rattle.tree.proofs.Finding.{found}
use Rattle.tree.proofs.reading.Reading.first_start.Goals as goal

pub returns : goal.returns
returns g c =
    let a = c.args in
    found (ChartStart (g.G.Grammar.meaning a.self.now.grammar.now) a.self.now.chart.now a.end a.value) _ _ _ _ c.find.ensures.ran
    (λ x q k. search rules) (λ x q k. (search rules, search rules)) (λ k p. (let low = p.below in (omega arith, omega arith)))
