-- Numbers made of a number and states, and taken apart again. Assumes nothing.
use Rattle.std.specs.Prelude.{◌≡◌, ℕ, ◌+◌, ◌*◌, ◌/◌, ◌%◌, ◌<◌}
use Rattle.std.proofs.Common.{sym, ap, ◌∙◌, div-add-mod'}
use Rattle.std.proofs.Math.Nat.{div-div-eq-div-mul}
use Rattle.std.proofs.Math.Arith.{digits_div, digits_mod}
use Rattle.layers.specs.Intersection.{crossed, crossed_number, cube}

module _ (q : ℕ) where
  -- a nonterminal's parts
  pub crossed_last : (a p r : ℕ) → r < q → crossed q a p r % q ≡ r
  crossed_last a p r h = digits_mod (a * q + p) h

  pub crossed_mid : (a p r : ℕ) → p < q → r < q → crossed q a p r / q % q ≡ p
  crossed_mid a p r g h = ap (λ (x : ℕ). x % q) (digits_div (a * q + p) h) ∙ digits_mod a g

  pub crossed_base : (a p r : ℕ) → p < q → r < q → crossed q a p r / q / q ≡ a
  crossed_base a p r g h = ap (λ (x : ℕ). x / q) (digits_div (a * q + p) h) ∙ digits_div a g

  pub crossed_whole : (x : ℕ) → crossed q (x / q / q) (x / q % q) (x % q) ≡ x
  crossed_whole x = ap (λ (y : ℕ). y * q + x % q) (div-add-mod' (x / q) q) ∙ div-add-mod' x q

  -- a rule's parts
  pub number_last : (i p s r : ℕ) → r < q → crossed_number q i p s r % q ≡ r
  number_last i p s r h = digits_mod ((i * q + p) * q + s) h

  pub number_mid : (i p s r : ℕ) → s < q → r < q → crossed_number q i p s r / q % q ≡ s
  number_mid i p s r g h = ap (λ (x : ℕ). x % q) (digits_div ((i * q + p) * q + s) h) ∙ digits_mod (i * q + p) g

  pub number_first : (i p s r : ℕ) → p < q → s < q → r < q → crossed_number q i p s r / q / q % q ≡ p
  number_first i p s r f g h =
      ap (λ (x : ℕ). x / q % q) (digits_div ((i * q + p) * q + s) h)
      ∙ ap (λ (x : ℕ). x % q) (digits_div (i * q + p) g)
      ∙ digits_mod i f

  pub number_base : (i p s r : ℕ) → p < q → s < q → r < q → crossed_number q i p s r / q / q / q ≡ i
  number_base i p s r f g h =
      ap (λ (x : ℕ). x / q / q) (digits_div ((i * q + p) * q + s) h)
      ∙ ap (λ (x : ℕ). x / q) (digits_div (i * q + p) g)
      ∙ digits_div i f

  pub number_whole : (n : ℕ) → crossed_number q (n / q / q / q) (n / q / q % q) (n / q % q) (n % q) ≡ n
  number_whole n =
      ap (λ (y : ℕ). (y * q + n / q % q) * q + n % q) (div-add-mod' (n / q / q) q)
      ∙ ap (λ (y : ℕ). y * q + n % q) (div-add-mod' (n / q) q)
      ∙ div-add-mod' n q

  pub by_cube : (n : ℕ) → n / cube q ≡ n / q / q / q
  by_cube n = sym (ap (λ (x : ℕ). x / q) (div-div-eq-div-mul n q q) ∙ div-div-eq-div-mul n (q * q) q)
