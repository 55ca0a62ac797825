-- Sums and products that stop at a largest number m. Assumes nothing.
use Rattle.std.specs.Prelude.{◌≡◌, ℕ, zero, suc, ◌+◌, ◌*◌, ◌<◌, ◌≤◌, min}
use Rattle.std.proofs.Common.{sym, ap, ◌∙◌, inl, inr, mul_comm, mul_assoc, mul-add, mul-zero, le-mul_of_pos_right, arith}
use Rattle.std.proofs.lemmas.Bool.{cases_lt}

module _ (m : ℕ) where
  cap_both : (a b : ℕ) → min (min a m + min b m) m ≡ min (a + b) m
  cap_both a b = omega arith

  large : (a b : ℕ) → m ≤ a → m ≤ a * suc b
  large a b h = let p : zero < suc b = omega arith in omega (arith, le-mul_of_pos_right {m = suc b} a p)

  cap_product : (a b : ℕ) → min (min a m * b) m ≡ min (a * b) m
  cap_product a zero = simp mul-zero
  cap_product a (suc b) = elim (cases_lt a m) [
    | inl h ↦ let e : min a m ≡ a = omega arith in ap (λ n. min (n * suc b) m) e
    | inr h ↦ let e : min a m ≡ m = omega arith in
        let k : m ≤ m = omega arith in
        ap (λ n. min (n * suc b) m) e ∙ omega (arith, large m b k, large a b h)
  ]

  cap_product_right : (a b : ℕ) → min (a * min b m) m ≡ min (a * b) m
  cap_product_right a b = ap (λ n. min n m) (mul_comm a (min b m)) ∙ cap_product b a ∙ ap (λ n. min n m) (mul_comm b a)

  pub sum_assoc : (a b c : ℕ) → min (min (a + b) m + c) m ≡ min (a + min (b + c) m) m
  sum_assoc a b c = omega arith

  pub sum_comm : (a b : ℕ) → min (a + b) m ≡ min (b + a) m
  sum_comm a b = omega arith

  pub product_assoc : (a b c : ℕ) → min (min (a * b) m * c) m ≡ min (a * min (b * c) m) m
  product_assoc a b c = cap_product (a * b) c ∙ ap (λ n. min n m) (mul_assoc a b c) ∙ sym (cap_product_right a (b * c))

  pub product_comm : (a b : ℕ) → min (a * b) m ≡ min (b * a) m
  product_comm a b = ap (λ n. min n m) (mul_comm a b)

  pub product_sum : (a b c : ℕ) → min (a * min (b + c) m) m ≡ min (min (a * b) m + min (a * c) m) m
  product_sum a b c = cap_product_right a (b + c) ∙ ap (λ n. min n m) (mul-add a b c) ∙ sym (cap_both (a * b) (a * c))
