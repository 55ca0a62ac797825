use Rattle.layers.proofs.Stacked.{same_weight_all}
use Rattle.layers.proofs.promises.leaf_weight.Goals as goal

pub returns-in-Some-clause-weighs : goal.returns-in-Some-clause-weighs
returns-in-Some-clause-weighs g c = same_weight_all g.met.S.Semiring.laws

pub returns-in-None-clause-weighs : goal.returns-in-None-clause-weighs
returns-in-None-clause-weighs g c = same_weight_all g.met.S.Semiring.laws
