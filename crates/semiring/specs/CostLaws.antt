-- The laws of the cost semiring. Assumes nothing.
use Rattle.std.specs.Prelude.{◌≡◌, ◌^◌, ◌<◌}
use mathlib.Core.HLevel.{is_prop→PathP}
use Rattle.std.proofs.Math.Bridge.{le_prop}
use Rattle.std.proofs.Common.{arith}
use Rattle.semiring.specs.Semirings.{Laws, Commutes}
use Rattle.semiring.specs.Costs.{cost}
use Rattle.semiring.specs.declared.cost.Cost.{Cost}
use Rattle.semiring.specs.OneSide.{from_one_side}

-- costs with the same value are the same
pub same : (x y : Cost) → x.value ≡ y.value → x ≡ y
same x y p = λ i. record { value = p i; fits = is_prop→PathP (λ j. p j < 2 ^ 32) (λ j. le_prop) x.fits y.fits i }

pub cost_commutes : Commutes cost
cost_commutes x y = same _ _ (omega arith)

pub cost_laws : Laws cost
cost_laws = from_one_side cost
    (λ x y z. same (cost.plus (cost.plus x y) z) (cost.plus x (cost.plus y z)) (omega arith))
    (λ x y. same (cost.plus x y) (cost.plus y x) (omega arith))
    (λ x. same (cost.plus x cost.zero) x (let h = x.fits in omega arith))
    (λ x y z. same (cost.times (cost.times x y) z) (cost.times x (cost.times y z)) (omega arith))
    cost_commutes
    (λ x. same (cost.times x cost.one) x (let h = x.fits in omega arith))
    (λ x y z. same (cost.times x (cost.plus y z)) (cost.plus (cost.times x y) (cost.times x z)) (omega arith))
    (λ x. same (cost.times x cost.zero) cost.zero (omega arith))
