use mathlib.Core.Path.{subst⁻¹}
use Rattle.chart.specs.Sums.{Noted}
use Rattle.chart.proofs.Summing.{noted_added}
use Rattle.chart.proofs.filling.Filling.add_rule.Goals as goal

pub returns-in-Some-clause-known : goal.returns-in-Some-clause-known
returns-in-Some-clause-known g c =
    let s = c.args.self.now.span in
    subst⁻¹ (λ ys. Noted g.W.Value.Semiring.ring s ys c.share.new.sums) c.add_to_cell.ensures
    (noted_added g.met.W.Value.Semiring.laws s c.args.rule.now.lhs c.in-Some.share c.args.slots.now _ c.requires.named.0 c.share.ensures.known)
