use Rattle.std.proofs.Common.{◌≡◌, ◌*◌, take}
use Rattle.vectors.specs.Hex.{spelled}
use Rattle.vectors.proofs.hex.bytes.Given as goal

-- the digits of the bytes so far
abbrev pub invariant-loop-high : goal.invariant-loop-high
invariant-loop-high l = spelled l.bytes.items ≡ take (l.high-index * 2) l.text
