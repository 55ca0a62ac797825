use Rattle.std.proofs.Common.{◌≡◌, Err, sym, refl, ap, ◌∙◌, subst, rules}
use Rattle.entries.specs.declared.call.Call.TheVariants.{Keep, Withdraw}
use Rattle.entries.specs.Model.{State, state, but_last, after, does, Did}
use Rattle.entries.proofs.Fronts.{fewer}
use Rattle.entries.proofs.Judging.{did_move}
use Rattle.entries.proofs.Listing.{shorter, state_of}
use Rattle.entries.proofs.list.Entries.withdraw.Goals as goal

pub returns-clause-did : goal.returns-clause-did
returns-clause-did c t =
    let e = c.args.self.now in
    let k = c.keep.new.self in
    let f = c.pop.new.self in
    let kept = c.in_ok-keep.ensures.did t in
    let marked : state k ≡ does (state e) Keep = did_move kept in
    let moved : state f ≡ does (state e) Withdraw =
    state_of f c.pop.ensures ∙ (λ i. record { entries = (shorter k ∙ ap (λ (s : State). but_last s.entries) marked) i; trial = (marked i).trial }) in
    record {
      answered = kept.answered;
      moved = moved ∙ ap (λ r. after r (state e) Withdraw) kept.answered;
      own = c.pop.ensures.own_is ∙ kept.own;
    }

pub returns-clause-front : goal.returns-clause-front
returns-clause-front c = fewer Withdraw _ _ refl (returns-clause-did c)

pub returns-in_err-keep-clause-did : goal.returns-in_err-keep-clause-did
returns-in_err-keep-clause-did c t =
    let e = c.args.self.now in
    let kept = c.in_err-keep.ensures.did t in
    let is : c.from_residual.result ≡ Err c.in_err-keep.field-0.0 = search rules in
    subst (λ r. Did t e Withdraw r c.keep.new.self) (sym is) (record {
      answered = kept.answered;
      moved = did_move kept ∙ ap (λ r. after r (state e) Withdraw) kept.answered;
      own = kept.own;
    })
