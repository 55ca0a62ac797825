-- The count semiring. Assumes nothing.
use Rattle.std.specs.Prelude.{ℕ, ◌+◌, ◌-◌, ◌*◌, ◌^◌, min}
use Rattle.std.proofs.Common.{arith}
use Rattle.semiring.specs.Semirings.{Operations}
use Rattle.semiring.specs.declared.count.Count.{Count}

-- the largest count
abbrev pub most : ℕ
most = 2 ^ 64 - 1

-- a number as a count: at the largest count it stops
abbrev pub capped : ℕ → Count
capped n = record { value = min n most; fits = omega arith }

-- sum and product stop at the largest count; 0 is the zero and 1 the one
abbrev pub count : Operations Count
count = record {
  zero = capped 0;
  one = capped 1;
  plus = λ x y. capped (x.value + y.value);
  times = λ x y. capped (x.value * y.value);
}
