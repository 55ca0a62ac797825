-- A list of at most 64 sums is no longer than memory, where more than 64 of their values are not. Assumes nothing.
use Rattle.std.proofs.Common.{ℕ, ◌+◌, ◌-◌, ◌*◌, ◌%◌, ◌<◌, ◌≤◌, max, sym, subst, arith}
use Rattle.std.proofs.Math.Nat.{mod-lt, max-le, le-max_left, mul-le-mul_right}
use mir.Syntax.{Width, w8, w16, w32, w64, w128, Ty}
use mir.Val.{bytes}
use prog.Memory.{size, align, up}
use prog.Align.{align-bytes, align_w, align_pos}

bytes_few : (w : Width) → bytes w ≤ 16
bytes_few w8 = omega arith
bytes_few w16 = omega arith
bytes_few w32 = omega arith
bytes_few w64 = omega arith
bytes_few w128 = omega arith

align_few : (t : Ty) → align t ≤ 16
align_few t = subst (λ k. k ≤ 16) (sym (align-bytes t)) (bytes_few (align_w t))

up_less : (k e : ℕ) → 0 < k → up k e < e + k
up_less k e h = let l = mod-lt (k - e % k) h in omega arith

pub sums_fit : (t u : Ty) (m n : ℕ) → m ≤ 64 → 64 < n → n * size t < 9223372036854775808
    → m * up (max 4 (max 8 (max (align t) 1))) (up (align u) 16 + size t) < 9223372036854775808
sums_fit t u m n few many fits =
    let a = max 4 (max 8 (max (align t) 1)) in
    let widest : a ≤ 16 = max-le (omega arith) (max-le (omega arith) (max-le (align_few t) (omega arith))) in
    let some : 0 < a = omega (arith, le-max_left 4 (max 8 (max (align t) 1))) in
    let key = up_less (align u) 16 (align_pos u) in
    let whole = up_less a (up (align u) 16 + size t) some in
    let most = mul-le-mul_right {m = 65} {n = n} (size t) many in
    let all = mul-le-mul_right {m = m} {n = 64} (up a (up (align u) 16 + size t)) few in
    omega (arith, align_few u, widest, key, whole, most, all, fits)

-- room for at most 256 rules is no longer than memory
pub rules_fit : (n : ℕ) → n ≤ 256 → up 8 (up 4 (0 + up 8 (up 8 (0 + n * 24) + 8)) + 4) < 9223372036854775808
rules_fit n few =
    let inner = up_less 8 (0 + n * 24) (omega arith) in
    let list = up_less 8 (up 8 (0 + n * 24) + 8) (omega arith) in
    let next = up_less 4 (0 + up 8 (up 8 (0 + n * 24) + 8)) (omega arith) in
    let whole = up_less 8 (up 4 (0 + up 8 (up 8 (0 + n * 24) + 8)) + 4) (omega arith) in
    omega (arith, inner, list, next, whole)
