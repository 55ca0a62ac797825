use Rattle.std.proofs.Common.{rules}
use Rattle.grammar.specs.Derivations.{has}
use Rattle.automata.proofs.table.is_in.Goals as goal

pub returns : goal.returns
unfolding has
returns c = search rules
