-- The cost semiring. Assumes nothing.
use Rattle.std.specs.Prelude.{ℕ, ◌+◌, ◌-◌, ◌^◌, min}
use Rattle.std.proofs.Common.{arith}
use Rattle.semiring.specs.Semirings.{Operations}
use Rattle.semiring.specs.declared.cost.Cost.{Cost}

-- the cost that stands for "none": there is no derivation
abbrev pub none : ℕ
none = 2 ^ 32 - 1

-- a number as a cost: at "none" it stops
abbrev pub costing : ℕ → Cost
costing n = record { value = min n none; fits = omega arith }

-- the smaller of two costs
abbrev pub smaller : Cost → Cost → Cost
smaller x y = record { value = min x.value y.value; fits = let h = x.fits in omega arith }

-- sum is the smaller of two, product is addition that stops at "none"; "none" is the zero and 0 the one
abbrev pub cost : Operations Cost
cost = record {
  zero = costing none;
  one = costing 0;
  plus = smaller;
  times = λ x y. costing (x.value + y.value);
}
