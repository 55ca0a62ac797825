use Rattle.std.proofs.Common.{◌≡◌, Ok, Some, None, ◌∙◌, subst, arith}
use Rattle.std.proofs.lemmas.Grind.{common_steps}
use Rattle.std.proofs.lemmas.Result.{err_from_is_err_and}
use Rattle.job.specs.Describing.{refusal}
use Rattle.job.specs.Held.{held}
use Rattle.job.specs.Outcomes.{FirstFault}
use Rattle.job.proofs.Turns.{more, stopped, refused}
use Rattle.job.proofs.loading.load.Goals as goal

pub returns-in_err-command : goal.returns-in_err-command
returns-in_err-command c =
    let inv = c.loop-command.invariant in
    let f = c.in_err-command.field-0.0 in
    let p = err_from_is_err_and c.from_residual.result c.from_residual.ensures.1 in
    rw (p.1, p.2) (subst (λ i. FirstFault i.now f.refusal f.place) inv.0 (stopped c.loop-command.reader inv.1.before inv.1.read inv.1.passes c.next.new.self f c.in_err-command.ensures.step))

pub returns-in_err-faulted_at : goal.returns-in_err-faulted_at
returns-in_err-faulted_at c =
    let why : refusal (held c.loop-command.description) c.in-Some.command ≡ Some c.in_err-faulted_at.field-0.0.refusal = grind arith in
    let here : c.in_err-faulted_at.field-0.0.place ≡ c.loop-command.reader.place = grind arith in
    let inv = c.loop-command.invariant in
    let f = c.in_err-faulted_at.field-0.0 in
    let took = rw c.in-Some.is at c.in_ok-command.ensures.step in
    let read = rw c.in-Some.is at (c.in_ok-command.ensures.read inv.1.before inv.1.read) in
    let p = err_from_is_err_and c.from_residual-in_err-faulted_at.result c.from_residual-in_err-faulted_at.ensures.1 in
    rw (p.1, p.2) (subst (λ i. FirstFault i.now f.refusal f.place) inv.0 (refused c.loop-command.reader _ inv.1 c.next.new.self c.in-Some.command f took.same took.short read.1 why here))

pub loop-command-preserved : goal.loop-command-preserved
loop-command-preserved c =
    let inv = c.loop-command.invariant in
    let took = rw c.in-Some.is at c.in_ok-command.ensures.step in
    let read = rw c.in-Some.is at (c.in_ok-command.ensures.read inv.1.before inv.1.read) in
    let fine : refusal (held c.loop-command.description) c.in-Some.command ≡ None = grind (arith, common_steps) in
    let ok : c.take.result ≡ Ok tt = grind (arith, common_steps) in
    (took.same ∙ inv.0, more c.loop-command.reader _ inv.1 c.next.new.self c.in-Some.command _ read.1 fine (c.take.ensures.after ok))
