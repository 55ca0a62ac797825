-- How totals are made of totals. Assumes nothing.
use Rattle.std.proofs.Common.{◌≡◌, ℕ, zero, suc, ◌<◌, ◌⊎◌, List, [], ◌∷◌, ◌++◌, map, sym, refl, ap, ◌∙◌, subst, ap₂, inl, inr, ⊎_elim, eq-or-lt_of_le, arith}
use mathlib.Core.List.{map-append}
use Rattle.semiring.specs.Semirings.{Operations, Laws, sum, sum_below}
use Rattle.grammar.specs.Totals.{Member, TotalOf}
use Rattle.grammar.proofs.Lists.{member_left, member_right, member_cases, once_append, map_member, member_map, once_map, products, products_member, member_products, once_products}

module _ {S : Type 0} {s : Operations S} (laws : Laws s) where
  pub sum-append : (xs ys : List S) → sum s (xs ++ ys) ≡ s.plus (sum s xs) (sum s ys)
  sum-append [] ys = sym (laws.plus_comm _ _ ∙ laws.plus_zero _)
  sum-append (x ∷ xs) ys = ap (s.plus x) (sum-append xs ys) ∙ sym (laws.plus_assoc _ _ _)

  pub total_none : {X : Type 0} {P : X → Type 0} (w : X → S) → ((x : X) → P x → ⊥) → TotalOf s P w s.zero
  total_none w never = record { all = []; each = never; only = λ x m. absurd m; once = tt; adds_up = refl }

  pub total_one : {X : Type 0} {P : X → Type 0} (w : X → S) (a : X) → P a → ((x : X) → P x → x ≡ a) → TotalOf s P w (w a)
  total_one {X} {P} w a here alone = record {
    all = a ∷ [];
    each = λ x p. inl (alone x p);
    only = λ x. ⊎_elim (λ e. subst P (sym e) here) (λ (m : ⊥). absurd m);
    once = (λ m. m, tt);
    adds_up = sym (laws.plus_zero (w a));
  }

  pub total_same : {X : Type 0} {P Q : X → Type 0} {w : X → S} {v : S} → ((x : X) → P x → Q x) → ((x : X) → Q x → P x) → TotalOf s P w v → TotalOf s Q w v
  total_same to from t = record {
    all = t.all;
    each = λ x q. t.each x (from x q);
    only = λ x m. to x (t.only x m);
    once = t.once;
    adds_up = t.adds_up;
  }

  pub total_value : {X : Type 0} {P : X → Type 0} {w : X → S} {u v : S} → u ≡ v → TotalOf s P w u → TotalOf s P w v
  total_value {P} {w} e t = subst (TotalOf s P w) e t

  pub total_or : {X : Type 0} {P Q : X → Type 0} {w : X → S} {u v : S} → TotalOf s P w u → TotalOf s Q w v → ((x : X) → P x → Q x → ⊥) → TotalOf s (λ x. P x ⊎ Q x) w (s.plus u v)
  total_or {X} {P} {Q} {w} {u} {v} p q apart = record {
    all = p.all ++ q.all;
    each = λ x. ⊎_elim (λ h. member_left x p.all q.all (p.each x h)) (λ h. member_right x p.all q.all (q.each x h));
    only = λ x m. ⊎_elim (λ h. inl (p.only x h)) (λ h. inr (q.only x h)) (member_cases x p.all q.all m);
    once = once_append p.all q.all p.once q.once (λ x h k. apart x (p.only x h) (q.only x k));
    adds_up = ap₂ s.plus p.adds_up q.adds_up ∙ sym (ap (sum s) (map-append w p.all q.all) ∙ sum-append _ _);
  }

  -- a family of totals, no two of which share anything
  pub total_below : {X : Type 0} {w : X → S} (P : ℕ → X → Type 0) (f : ℕ → S) (n : ℕ) → ((i : ℕ) → i < n → TotalOf s (P i) w (f i)) → ((i j : ℕ) (x : X) → i < n → j < n → P i x → P j x → i ≡ j) → TotalOf s (λ x. (i : ℕ) × (i < n) × P i x) w (sum_below s n f)
  unfolding sum_below
  total_below {w} P f zero parts apart = total_none w (λ x h. let k = h.1 in omega arith)
  total_below {X} {w} P f (suc n) parts apart =
      total_same to from
      (total_or (total_below P f n (λ i h. parts i (omega arith)) (λ i j x hi hj. apart i j x (omega arith) (omega arith))) (parts n (omega arith))
      (λ x h k. let l = h.1 in let e = apart h.0 n x (omega arith) (omega arith) h.2 k in omega arith))
    where
      to : (x : X) → ((i : ℕ) × (i < n) × P i x) ⊎ P n x → (i : ℕ) × (i < suc n) × P i x
      to x (inl h) = (h.0, (let l = h.1 in omega arith), h.2)
      to x (inr h) = (n, omega arith, h)

      last : (x : X) (i : ℕ) → P i x → (i ≡ n) ⊎ (i < n) → ((i : ℕ) × (i < n) × P i x) ⊎ P n x
      last x i h (inl e) = inr (subst (λ k. P k x) e h)
      last x i h (inr l) = inl (i, l, h)

      from : (x : X) → (i : ℕ) × (i < suc n) × P i x → ((i : ℕ) × (i < n) × P i x) ⊎ P n x
      from x h = last x h.0 h.2 (eq-or-lt_of_le (let l = h.1 in omega arith))

  -- pairs of a thing of one kind and a thing of another, joined by f; k is what joining weighs
  module _ {X Y Z : Type 0} (w : Z → S) (wx : X → S) (wy : Y → S) (f : X → Y → Z) (k : S) (weighs : (x : X) (y : Y) → w (f x y) ≡ s.times k (s.times (wx x) (wy y))) where
    sum_row : (x : X) (ys : List Y) → sum s (map w (map (f x) ys)) ≡ s.times k (s.times (wx x) (sum s (map wy ys)))
    sum_row x [] = sym (ap (s.times k) (laws.times_zero (wx x)) ∙ laws.times_zero k)
    sum_row x (y ∷ ys) =
        ap₂ s.plus (weighs x y) (sum_row x ys)
        ∙ sym (laws.times_plus k _ _)
        ∙ ap (s.times k) (sym (laws.times_plus (wx x) _ _))

    sum-products : (xs : List X) (ys : List Y) → sum s (map w (products f xs ys)) ≡ s.times k (s.times (sum s (map wx xs)) (sum s (map wy ys)))
    sum-products [] ys = sym (ap (s.times k) (laws.zero_times _) ∙ laws.times_zero k)
    sum-products (x ∷ xs) ys =
        ap (sum s) (map-append w (map (f x) ys) (products f xs ys))
        ∙ sum-append _ _
        ∙ ap₂ s.plus (sum_row x ys) (sum-products xs ys)
        ∙ sym (laws.times_plus k _ _)
        ∙ ap (s.times k) (sym (laws.plus_times (wx x) _ _))

    pub total_product : {P : X → Type 0} {Q : Y → Type 0} {u v : S} → ((x x' : X) (y y' : Y) → f x y ≡ f x' y' → (x ≡ x') × (y ≡ y'))
        → TotalOf s P wx u → TotalOf s Q wy v → TotalOf s (λ z. (x : X) × (y : Y) × P x × Q y × (z ≡ f x y)) w (s.times k (s.times u v))
    total_product {P} {Q} apart p q = record {
      all = products f p.all q.all;
      each = λ z h. subst (λ a. Member a (products f p.all q.all)) (sym h.4) (products_member f h.0 h.1 p.all q.all (p.each _ h.2) (q.each _ h.3));
      only = λ z m. let h = member_products f z p.all q.all m in (h.0, h.1, p.only _ h.2, q.only _ h.3, h.4);
      once = once_products f apart p.all q.all p.once q.once;
      adds_up = ap₂ (λ a b. s.times k (s.times a b)) p.adds_up q.adds_up ∙ sym (sum-products p.all q.all);
    }

  -- what matches one for one, with equal weights, has the same total
  map_weights : {X Y : Type 0} (w : X → S) (w' : Y → S) (f : X → Y) (xs : List X) → ((x : X) → Member x xs → w x ≡ w' (f x)) → map w xs ≡ map w' (map f xs)
  map_weights w w' f [] same = refl
  map_weights w w' f (x ∷ xs) same = ap₂ ◌∷◌ (same x (inl refl)) (map_weights w w' f xs (λ a m. same a (inr m)))

  pub total_image : {X Y : Type 0} {P : X → Type 0} {Q : Y → Type 0} {w : X → S} {w' : Y → S} {v : S} (f : X → Y)
      → ((x : X) → P x → Q (f x))
      → ((x x' : X) → P x → P x' → f x ≡ f x' → x ≡ x')
      → ((y : Y) → Q y → (x : X) × P x × (y ≡ f x))
      → ((x : X) → P x → w x ≡ w' (f x))
      → TotalOf s P w v → TotalOf s Q w' v
  total_image {Q} {w} {w'} f into apart onto same t = record {
    all = map f t.all;
    each = λ y q. let h = onto y q in subst (λ a. Member a (map f t.all)) (sym h.2) (map_member f h.0 t.all (t.each h.0 h.1));
    only = λ y m. let h = member_map f y t.all m in subst Q (sym h.2) (into h.0 (t.only h.0 h.1));
    once = once_map f t.all (λ x x' m m' e. apart x x' (t.only x m) (t.only x' m') e) t.once;
    adds_up = t.adds_up ∙ ap (sum s) (map_weights w w' f t.all (λ x m. same x (t.only x m)));
  }
