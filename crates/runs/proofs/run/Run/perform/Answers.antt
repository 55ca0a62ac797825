use Rattle.runs.proofs.Marks.{performed}
use Rattle.runs.proofs.run.Run.perform.Goals as goal

pub returns-in-Clear-clause-performed : goal.returns-in-Clear-clause-performed
returns-in-Clear-clause-performed g c = rw c.in-Clear.is (performed c.clear.ensures.moved)

pub returns-in-TakeBack-clause-performed : goal.returns-in-TakeBack-clause-performed
returns-in-TakeBack-clause-performed g c = rw c.in-TakeBack.is (performed c.take_back.ensures.moved)

pub returns-in-Keep-clause-performed : goal.returns-in-Keep-clause-performed
returns-in-Keep-clause-performed g c = rw c.in-Keep.is (performed c.keep.ensures.moved)

pub returns-in-Withdraw-clause-performed : goal.returns-in-Withdraw-clause-performed
returns-in-Withdraw-clause-performed g c = rw c.in-Withdraw.is (performed c.withdraw.ensures.moved)
