-- The yes/no semiring. Assumes nothing.
use Rattle.std.specs.Prelude.{Bool, true, false, ◌&&◌, ◌||◌}
use Rattle.semiring.specs.Semirings.{Operations}
use Rattle.semiring.specs.declared.yes_no.YesNo.{YesNo}

-- the value of a truth value
abbrev pub of_bool : Bool → YesNo
of_bool b = record { value = b }

-- sum is or, product is and; no is the zero and yes the one
abbrev pub yes_no : Operations YesNo
yes_no = record {
  zero = of_bool false;
  one = of_bool true;
  plus = λ x y. of_bool (x.value || y.value);
  times = λ x y. of_bool (x.value && y.value);
}
