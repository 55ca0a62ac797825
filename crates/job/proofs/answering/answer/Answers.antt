use Rattle.std.proofs.Common.{[], subst}
use Rattle.std.proofs.lemmas.Result.{err_from_is_err_and}
use Rattle.job.specs.Outcomes.{FirstFault}
use Rattle.job.proofs.Turns.{stopped}
use Rattle.job.proofs.answering.answer.Goals as goal

pub returns-in_err-nonterminals-clause-is : goal.returns-in_err-nonterminals-clause-is
returns-in_err-nonterminals-clause-is c =
    let f = c.in_err-nonterminals.field-0.0 in
    let start = c.new-reader.ensures in
    let p = err_from_is_err_and c.from_residual.result c.from_residual.ensures.1 in
    rw (p.1, p.2) (subst (λ i. FirstFault i.now f.refusal f.place) start.start.0 (stopped c.new-reader.result [] start.read tt c.next.new.self f c.in_err-nonterminals.ensures.step))
