-- Bytes as hexadecimal digits. Assumes nothing.
use Rattle.std.specs.Prelude.{ℕ, ◌+◌, ◌/◌, ◌%◌, cond, List, [], ◌∷◌, nat_lt}

-- the digit of a number below 16: '0' to '9', then 'A' to 'F'
abbrev pub digit_of : ℕ → ℕ
digit_of n = cond (nat_lt n 10) (48 + n) (55 + n)

-- the digits of bytes, the high one first
abbrev pub spelled : List ℕ → List ℕ
spelled [] = []
spelled (b ∷ bs) = digit_of (b / 16) ∷ (digit_of (b % 16) ∷ spelled bs)
