-- One side of each law is enough where the product commutes. Assumes nothing.
use Rattle.std.specs.Prelude.{◌≡◌}
use Rattle.std.proofs.Common.{ap₂, ◌∙◌}
use Rattle.semiring.specs.Semirings.{Operations, Laws, Commutes}

pub from_one_side : {S : Type 0} (s : Operations S)
    → ((x y z : S) → s.plus (s.plus x y) z ≡ s.plus x (s.plus y z))
    → ((x y : S) → s.plus x y ≡ s.plus y x)
    → ((x : S) → s.plus x s.zero ≡ x)
    → ((x y z : S) → s.times (s.times x y) z ≡ s.times x (s.times y z))
    → Commutes s
    → ((x : S) → s.times x s.one ≡ x)
    → ((x y z : S) → s.times x (s.plus y z) ≡ s.plus (s.times x y) (s.times x z))
    → ((x : S) → s.times x s.zero ≡ s.zero)
    → Laws s
from_one_side s pa pc pz ta tc to tp tz = record {
  plus_assoc = pa;
  plus_comm = pc;
  plus_zero = pz;
  zero_plus = λ x. pc s.zero x ∙ pz x;
  times_assoc = ta;
  times_one = to;
  one_times = λ x. tc s.one x ∙ to x;
  times_plus = tp;
  plus_times = λ x y z. tc (s.plus x y) z ∙ tp z x y ∙ ap₂ s.plus (tc z x) (tc z y);
  times_zero = tz;
  zero_times = λ x. tc s.zero x ∙ tz x;
}
