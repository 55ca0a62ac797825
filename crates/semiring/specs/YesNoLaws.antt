-- The laws of the yes/no semiring. Assumes nothing.
use Rattle.std.specs.Prelude.{◌≡◌, Bool, true, false, ◌&&◌, ◌||◌, refl}
use Rattle.std.proofs.Common.{ap}
use Rattle.semiring.specs.Semirings.{Laws, Commutes}
use Rattle.semiring.specs.YesNos.{of_bool, yes_no}
use Rattle.semiring.specs.OneSide.{from_one_side}

or_assoc : (a b c : Bool) → ((a || b) || c) ≡ (a || (b || c))
or_assoc true b c = refl
or_assoc false b c = refl

or_comm : (a b : Bool) → (a || b) ≡ (b || a)
or_comm true true = refl
or_comm true false = refl
or_comm false true = refl
or_comm false false = refl

or_false : (a : Bool) → (a || false) ≡ a
or_false true = refl
or_false false = refl

and_assoc : (a b c : Bool) → ((a && b) && c) ≡ (a && (b && c))
and_assoc true b c = refl
and_assoc false b c = refl

and_comm : (a b : Bool) → (a && b) ≡ (b && a)
and_comm true true = refl
and_comm true false = refl
and_comm false true = refl
and_comm false false = refl

and-true : (a : Bool) → (a && true) ≡ a
and-true true = refl
and-true false = refl

and-false : (a : Bool) → (a && false) ≡ false
and-false true = refl
and-false false = refl

and-or : (a b c : Bool) → (a && (b || c)) ≡ ((a && b) || (a && c))
and-or true b c = refl
and-or false b c = refl

pub yes_no_commutes : Commutes yes_no
yes_no_commutes x y = ap of_bool (and_comm x.value y.value)

pub yes_no_laws : Laws yes_no
yes_no_laws = from_one_side yes_no
    (λ x y z. ap of_bool (or_assoc x.value y.value z.value))
    (λ x y. ap of_bool (or_comm x.value y.value))
    (λ x. ap of_bool (or_false x.value))
    (λ x y z. ap of_bool (and_assoc x.value y.value z.value))
    yes_no_commutes
    (λ x. ap of_bool (and-true x.value))
    (λ x y z. ap of_bool (and-or x.value y.value z.value))
    (λ x. ap of_bool (and-false x.value))
