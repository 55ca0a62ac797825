-- The laws of the count semiring. Assumes nothing.
use Rattle.std.specs.Prelude.{◌≡◌, ◌^◌, ◌<◌}
use mathlib.Core.HLevel.{is_prop→PathP}
use Rattle.std.proofs.Math.Bridge.{le_prop}
use Rattle.std.proofs.Common.{arith}
use Rattle.semiring.specs.Semirings.{Laws, Commutes}
use Rattle.semiring.specs.Counts.{most, count}
use Rattle.semiring.specs.declared.count.Count.{Count}
use Rattle.semiring.specs.OneSide.{from_one_side}
use Rattle.semiring.specs.Capped.{sum_assoc, sum_comm, product_assoc, product_comm, product_sum}

-- counts with the same value are the same
pub same : (x y : Count) → x.value ≡ y.value → x ≡ y
same x y p = λ i. record { value = p i; fits = is_prop→PathP (λ j. p j < 2 ^ 64) (λ j. le_prop) x.fits y.fits i }

pub count_commutes : Commutes count
count_commutes x y = same _ _ (product_comm most x.value y.value)

pub count_laws : Laws count
count_laws = from_one_side count
    (λ x y z. same _ _ (sum_assoc most x.value y.value z.value))
    (λ x y. same _ _ (sum_comm most x.value y.value))
    (λ x. same (count.plus x count.zero) x (let h = x.fits in omega arith))
    (λ x y z. same _ _ (product_assoc most x.value y.value z.value))
    count_commutes
    (λ x. same (count.times x count.one) x (let h = x.fits in omega arith))
    (λ x y z. same _ _ (product_sum most x.value y.value z.value))
    (λ x. same (count.times x count.zero) count.zero (omega arith))
