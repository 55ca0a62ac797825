-- No two values are the total of the same. Assumes nothing.
use Rattle.std.proofs.Common.{◌≡◌, ◌⊎◌, List, [], ◌∷◌, map, sym, refl, ap, ◌∙◌, subst, inl, inr, ⊎_elim}
use Rattle.semiring.specs.Semirings.{Operations, Laws, sum}
use Rattle.grammar.specs.Totals.{Member, NoRepeats, TotalOf}

module _ {X S : Type 0} {s : Operations S} (laws : Laws s) (w : X → S) where
  -- a list without one of its members
  record Without (x : X) (ys : List X) : Type 0 where
    rest : List X
    once : NoRepeats rest
    kept : (y : X) → Member y rest → Member y ys
    gone : ¬ Member x rest
    others : (y : X) → Member y ys → (y ≡ x) ⊎ Member y rest
    weighs : sum s (map w ys) ≡ s.plus (w x) (sum s (map w rest))

  swap : (a b c : S) → s.plus a (s.plus b c) ≡ s.plus b (s.plus a c)
  swap a b c = sym (laws.plus_assoc a b c) ∙ ap (λ d. s.plus d c) (laws.plus_comm a b) ∙ laws.plus_assoc b a c

  without : (x : X) (ys : List X) → NoRepeats ys → Member x ys → Without x ys
  without x [] once m = absurd m
  without x (y ∷ ys) once (inl e) = record {
    rest = ys;
    once = once.1;
    kept = λ z m. inr m;
    gone = λ m. once.0 (subst (λ a. Member a ys) e m);
    others = λ z. ⊎_elim (λ d. inl (d ∙ sym e)) inr;
    weighs = ap (λ a. s.plus (w a) (sum s (map w ys))) (sym e);
  }
  without x (y ∷ ys) once (inr m) =
      let deep = without x ys once.1 m in
      record {
        rest = y ∷ deep.rest;
        once = (λ k. once.0 (deep.kept y k), deep.once);
        kept = λ z. ⊎_elim inl (λ k. inr (deep.kept z k));
        gone = ⊎_elim (λ e. once.0 (subst (λ a. Member a ys) e m)) deep.gone;
        others = λ z. ⊎_elim (λ d. inr (inl d)) (λ k. ⊎_elim inl (λ h. inr (inr h)) (deep.others z k));
        weighs = ap (s.plus (w y)) deep.weighs ∙ swap (w y) (w x) _;
      }

  same_sum : (xs ys : List X) → NoRepeats xs → NoRepeats ys → ((x : X) → Member x xs → Member x ys) → ((x : X) → Member x ys → Member x xs) → sum s (map w xs) ≡ sum s (map w ys)
  same_sum [] [] p q to from = refl
  same_sum [] (y ∷ ys) p q to from = absurd (from y (inl refl))
  same_sum (x ∷ xs) ys p q to from =
      let d = without x ys q (to x (inl refl)) in
      ap (s.plus (w x)) (same_sum xs d.rest p.1 d.once
      (λ z m. ⊎_elim (λ e. absurd (p.0 (subst (λ a. Member a xs) e m))) (λ h. h) (d.others z (to z (inr m))))
      (λ z m. ⊎_elim (λ e. absurd (d.gone (subst (λ a. Member a d.rest) e m))) (λ h. h) (from z (d.kept z m))))
      ∙ sym d.weighs

  pub total_unique : {P : X → Type 0} {u v : S} → TotalOf s P w u → TotalOf s P w v → u ≡ v
  total_unique p q =
      p.adds_up ∙ same_sum p.all q.all p.once q.once (λ x m. q.each x (p.only x m)) (λ x m. p.each x (q.only x m)) ∙ sym q.adds_up
