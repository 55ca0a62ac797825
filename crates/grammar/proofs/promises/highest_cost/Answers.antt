use Rattle.grammar.proofs.Promised.{costs_at_most}
use Rattle.grammar.proofs.promises.highest_cost.Goals as goal

pub returns-clause-most : goal.returns-clause-most
returns-clause-most c = costs_at_most _ _ c.cost_of_nodes.ensures
