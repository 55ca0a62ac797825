-- How many spans entries have, and whether there is room for them. Assumes nothing.
use Rattle.std.specs.Prelude.{ℕ, ◌+◌, ◌-◌, ◌*◌, ◌/◌, Bool, not, ◌&&◌, nat_le, nat_lt}

-- the number of spans that end before `end`
unfoldable pub triangle : ℕ → ℕ
triangle end = end * (end - 1) / 2

-- there is no place for an entry after the first `count`: there are 64 already, or the spans of one entry more, with n cells each, are more than the slots
abbrev pub full : ℕ → ℕ → ℕ → Bool
full count n slots = not (nat_lt count 64 && nat_le (triangle (count + 2) * n) slots)
