-- Each input has one outcome. Assumes nothing.
use Rattle.std.proofs.Common.{◌≡◌, ℕ, List, [], ◌∷◌, ◌++◌, length, sym, refl, ap, ◌∙◌, subst, inl, inr, append_assoc, append-nil, arith, length-append}
use Rattle.commands.specs.declared.command.Command.{Command}
use Rattle.commands.specs.Format.{encode, encodes}
use Rattle.commands.specs.Order.{Ordered}
use Rattle.commands.specs.Jobs.{Ends, Stuck, Job, FaultAt, OneOutcome}
use Rattle.commands.proofs.Unique.{same_command, same_rest}
use Rattle.commands.proofs.Turns.{encode_some}

empty_stuck : (before : List Command) → Stuck before []
empty_stuck before c rest b a = omega (arith, encode_some c, ap length b ∙ length-append (encode c) rest)

-- two ways to read an input as far as the rules go are one
same : (before cs ds : List Command) (bs r s : List ℕ) → Ordered before cs → Ordered before ds → bs ≡ encodes cs ++ r → bs ≡ encodes ds ++ s → Stuck (before ++ cs) r → Stuck (before ++ ds) s → cs ≡ ds
same before [] [] bs r s oc od p q u v = refl
same before [] (d ∷ ds) bs r s oc od p q u v =
    absurd (subst (λ l. Stuck l r) (append-nil before) u d (encodes ds ++ s) (sym p ∙ q ∙ append_assoc (encode d) (encodes ds) s) od.0)
same before (c ∷ cs) [] bs r s oc od p q u v =
    absurd (subst (λ l. Stuck l s) (append-nil before) v c (encodes cs ++ r) (sym q ∙ p ∙ append_assoc (encode c) (encodes cs) r) oc.0)
same before (c ∷ cs) (d ∷ ds) bs r s oc od p q u v =
    let p' = p ∙ append_assoc (encode c) (encodes cs) r in
    let q' = q ∙ append_assoc (encode d) (encodes ds) s in
    let e = same_command bs c d _ _ p' q' in
    let q'' : bs ≡ encode c ++ (encodes ds ++ s) = subst (λ x. bs ≡ encode x ++ (encodes ds ++ s)) (sym e) q' in
    let t = same_rest bs (encode c) (encodes cs ++ r) (encodes ds ++ s) p' q'' in
    let od' : Ordered (before ++ (c ∷ [])) ds = subst (λ x. Ordered (before ++ (x ∷ [])) ds) (sym e) od.1 in
    let u' : Stuck ((before ++ (c ∷ [])) ++ cs) r = subst (λ l. Stuck l r) (sym (append_assoc before (c ∷ []) cs)) u in
    let v' : Stuck ((before ++ (c ∷ [])) ++ ds) s = subst (λ l. Stuck l s) (sym (append_assoc before (c ∷ []) ds)) (subst (λ x. Stuck (before ++ (x ∷ ds)) s) (sym e) v) in
    let f = same (before ++ (c ∷ [])) cs ds (encodes cs ++ r) r s oc.1 od' refl t u' v' in
    (λ i. e i ∷ f i)

module _ (input : List ℕ) where
  job_bytes : (cs : List Command) → Job input cs → input ≡ encodes cs ++ []
  job_bytes cs j = j.bytes ∙ sym (append-nil (encodes cs))

  jobs : (cs ds : List Command) → Job input cs → Job input ds → cs ≡ ds
  jobs cs ds j k = same [] cs ds input [] [] j.ordered k.ordered (job_bytes cs j) (job_bytes ds k) (empty_stuck cs) (empty_stuck ds)

  both : (cs : List Command) (p : ℕ) → Job input cs → FaultAt input p → ⊥
  both cs p j (inl f) = omega (arith, j.short, f.0)
  both cs p j (inr b) =
      let e = same [] cs b.before input [] b.rest j.ordered b.ordered (job_bytes cs j) b.split (empty_stuck cs) b.stuck in
      let r = same_rest input (encodes cs) [] b.rest (job_bytes cs j) (subst (λ l. input ≡ encodes l ++ b.rest) (sym e) b.split) in
      omega (arith, b.unfinished (subst Ends e j.ended), ap length r)

  places : (p q : ℕ) → FaultAt input p → FaultAt input q → p ≡ q
  places p q (inl f) (inl g) = f.1 ∙ sym g.1
  places p q (inl f) (inr b) = absurd (omega (arith, f.0, b.short))
  places p q (inr b) (inl f) = absurd (omega (arith, f.0, b.short))
  places p q (inr b) (inr d) =
      let e = same [] b.before d.before input b.rest d.rest b.ordered d.ordered b.split d.split b.stuck d.stuck in
      b.here ∙ ap (λ l. length (encodes l)) e ∙ sym d.here

pub one_outcome : (input : List ℕ) → OneOutcome input
one_outcome input = record { one_job = jobs input; not_both = both input; one_place = places input }
