-- What a semiring is, its laws, and sums in it. Assumes nothing.
use Rattle.std.specs.Prelude.{◌≡◌, ℕ, zero, suc, List, [], ◌∷◌}

-- a zero, a one, a sum and a product
pub record Operations (S : Type 0) : Type 0 where
  pub zero : S
  pub one : S
  pub plus : S → S → S
  pub times : S → S → S

-- the laws of a semiring; whether the product commutes is apart from them, below
pub record Laws {S : Type 0} (s : Operations S) : Type 0 where
  pub plus_assoc : (x y z : S) → s.plus (s.plus x y) z ≡ s.plus x (s.plus y z)
  pub plus_comm : (x y : S) → s.plus x y ≡ s.plus y x
  pub plus_zero : (x : S) → s.plus x s.zero ≡ x
  pub zero_plus : (x : S) → s.plus s.zero x ≡ x
  pub times_assoc : (x y z : S) → s.times (s.times x y) z ≡ s.times x (s.times y z)
  pub times_one : (x : S) → s.times x s.one ≡ x
  pub one_times : (x : S) → s.times s.one x ≡ x
  pub times_plus : (x y z : S) → s.times x (s.plus y z) ≡ s.plus (s.times x y) (s.times x z)
  pub plus_times : (x y z : S) → s.times (s.plus x y) z ≡ s.plus (s.times x z) (s.times y z)
  pub times_zero : (x : S) → s.times x s.zero ≡ s.zero
  pub zero_times : (x : S) → s.times s.zero x ≡ s.zero

-- the product commutes
abbrev pub Commutes : {S : Type 0} → Operations S → Type 0
Commutes {S} s = (x y : S) → s.times x y ≡ s.times y x

-- the sum of a list
abbrev pub sum : {S : Type 0} → Operations S → List S → S
sum s [] = s.zero
sum s (x ∷ xs) = s.plus x (sum s xs)

-- f 0 + f 1 + .. + f (n - 1)
unfoldable pub sum_below : {S : Type 0} → Operations S → ℕ → (ℕ → S) → S
sum_below s zero f = s.zero
sum_below s (suc n) f = s.plus (sum_below s n f) (f n)
