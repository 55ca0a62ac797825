use Rattle.std.proofs.Common.{◌≡◌, Ok, refl, ◌∙◌, rules}
use Rattle.entries.specs.declared.call.Call.TheVariants.{TakeBack}
use Rattle.entries.specs.Model.{state, does, answer}
use Rattle.entries.proofs.Fronts.{fewer}
use Rattle.entries.proofs.Judging.{accepted}
use Rattle.entries.proofs.Listing.{size, shorter, state_of}
use Rattle.entries.proofs.list.Entries.take_back.Goals as goal

pub returns-clause-did : goal.returns-clause-did
returns-clause-did c t =
    let e = c.args.self.now in
    let f = c.pop.new.self in
    let many = size e in
    let said : answer t (state e) TakeBack ≡ Ok tt = search rules in
    let moved : state f ≡ does (state e) TakeBack = state_of f c.pop.ensures ∙ (λ i. record { entries = shorter e i; trial = e.trial }) in
    accepted t e f TakeBack said moved c.pop.ensures.own_is

pub returns-clause-front : goal.returns-clause-front
returns-clause-front c = fewer TakeBack _ _ refl (returns-clause-did c)
