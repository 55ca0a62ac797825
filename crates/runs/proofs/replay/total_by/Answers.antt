use Rattle.layers.proofs.Stacked.{one_for_one_all, same_weight_all}
use Rattle.runs.proofs.replay.total_by.Goals as goal

pub returns-clause-matches : goal.returns-clause-matches
returns-clause-matches g c = one_for_one_all

pub returns-clause-weighs : goal.returns-clause-weighs
returns-clause-weighs g c = same_weight_all g.met.S.Semiring.laws
