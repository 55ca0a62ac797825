use Rattle.std.proofs.Common.{arith, rules}
use Rattle.grammar.specs.declared.rule.Expansion.TheVariants.{Pair}
use Rattle.tree.specs.Steps.{ChartAttains}
use Rattle.tree.proofs.Finding.{found}
use Rattle.tree.proofs.reading.Reading.first_pair_cut.Goals as goal

pub returns : goal.returns
returns g c =
    let a = c.args in
    found (ChartAttains a.self.now.chart.now a.tried (Pair a.left a.right)) _ _ _ _ c.find.ensures.ran
    (λ x q k. search rules) (λ x q k. (search rules, search rules)) (λ k p. (let low = p.after in let high = p.before in (omega arith, omega arith)))
