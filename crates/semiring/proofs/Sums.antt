-- Sums of f 0 to f (n - 1). Assumes nothing.
use Rattle.std.proofs.Common.{◌≡◌, ℕ, zero, suc, ◌+◌, ◌<◌, refl, ap, ap₂, add-one, arith}
use Rattle.semiring.specs.Semirings.{Operations, sum_below}

module _ {S : Type 0} (s : Operations S) where
  pub sum_none : (f : ℕ → S) → sum_below s 0 f ≡ s.zero
  unfolding sum_below
  sum_none f = refl

  pub sum_more : (k : ℕ) (f : ℕ → S) → sum_below s (k + 1) f ≡ s.plus (sum_below s k f) (f k)
  unfolding sum_below
  sum_more k f = ap (λ n. sum_below s n f) (add-one k)

  pub sum_same : (n : ℕ) (f h : ℕ → S) → ((k : ℕ) → k < n → f k ≡ h k) → sum_below s n f ≡ sum_below s n h
  unfolding sum_below
  sum_same zero f h e = refl
  sum_same (suc n) f h e = ap₂ s.plus (sum_same n f h (λ k l. e k (omega arith))) (e n (omega arith))
