use Rattle.grammar.proofs.Promised.{sums_are_totals}
use Rattle.grammar.proofs.promises.sum_of_none.Goals as goal

pub returns-clause-sums : goal.returns-clause-sums
returns-clause-sums g c = sums_are_totals g.met.S.Semiring.laws
