-- Writing to a place in use. Assumes nothing.
use Rattle.std.specs.Prelude.{◌≡◌, ℕ, ◌<◌, List, take, slice_set}
use Rattle.std.proofs.Math.Seq.{take-set-lt}

pub set_taken : {T : Type 0} (n : ℕ) (xs : List T) (i : ℕ) (x : T) → i < n → take n (slice_set xs i x) ≡ slice_set (take n xs) i x
set_taken n xs i x l = take-set-lt n xs i x l
