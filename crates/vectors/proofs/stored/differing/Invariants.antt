use Rattle.std.proofs.Common.{◌≡◌, ◌≤◌, take, vec_len}
use Rattle.vectors.specs.Jobs.{AllRight}
use Rattle.vectors.proofs.stored.differing.Given as goal

-- at most one number for each job so far, and if there is none, these are all right
abbrev pub invariant-loop-number : goal.invariant-loop-number
invariant-loop-number l = (vec_len l.numbers ≤ l.number) × (vec_len l.numbers ≡ 0 → AllRight (take l.number l.all))
