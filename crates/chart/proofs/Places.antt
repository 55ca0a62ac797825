-- Cells of different spans lie apart. Assumes nothing.
use Rattle.std.proofs.Common.{◌≡◌, ℕ, zero, suc, ◌+◌, ◌-◌, ◌*◌, ◌/◌, ◌<◌, ◌≤◌, sym, refl, ap, ◌∙◌, inl, inr, mul-le-mul_right, mul_comm, add-mul, mul-le-mul, mul-add, arith}
use native.Mathlib.Nat.{add-mul-div_right}
use Rattle.std.proofs.lemmas.Bool.{cases_lt}
use Rattle.entries.specs.Spans.{triangle}
use Rattle.chart.specs.Cells.{place, Room}

twice : (n : ℕ) → (n + 1) * ((n + 1) - 1) ≡ n * (n - 1) + n * 2
twice zero = refl
twice (suc m) =
    let e : (suc m + 1) - 1 ≡ suc m = omega arith in
    let d : suc m + 1 ≡ m + 2 = omega arith in
    let p : suc m - 1 ≡ m = omega arith in
    ap (λ k. (suc m + 1) * k) e ∙ mul_comm (suc m + 1) (suc m) ∙ ap (λ k. suc m * k) d ∙ mul-add (suc m) m 2
    ∙ ap (λ k. suc m * k + suc m * 2) (sym p)

pub triangle_more : (n : ℕ) → triangle (n + 1) ≡ triangle n + n
unfolding triangle
triangle_more n = ap (λ k. k / 2) (twice n) ∙ add-mul-div_right _ n {z = 2} (omega arith)

-- rows of earlier ends come first
pub triangle_step : (f e : ℕ) → f < e → triangle f + f ≤ triangle e
triangle_step f zero h = omega arith
triangle_step f (suc e) h =
    let s : triangle (suc e) ≡ triangle e + e = ap triangle (omega arith) ∙ triangle_more e in
    elim (cases_lt f e) [
      | inl k ↦ omega (arith, s, triangle_step f e k)
      | inr k ↦ let same : f ≡ e = omega arith in let t : triangle f ≡ triangle e = ap triangle same in omega (arith, s, t)
    ]

pub row_narrow : (b f c e : ℕ) → b < f → f < e → triangle f + b < triangle e + c
row_narrow b f c e h k = omega (arith, triangle_step f e k)

pub apart : (n r s a c : ℕ) → r < s → a < n → r * n + a < s * n + c
apart n r s a c h k = let l : r + 1 ≤ s = omega arith in omega (arith, mul-le-mul_right {m = r + 1} {n = s} n l, add-mul r 1 n)

pub inside : (n begin end a slots : ℕ) → begin < end → a < n → triangle (end + 1) * n ≤ slots → place n begin end a < slots
unfolding place
inside n begin end a slots h k r =
    omega (arith, apart n (triangle end + begin) (triangle (end + 1)) a 0 (omega (arith, triangle_more end)) k)

-- room for the spans that end earlier
pub room_before : (n f e slots : ℕ) → f ≤ e → Room n e slots → Room n f slots
room_before n f e slots h r =
    let up : triangle (f + 1) ≤ triangle (e + 1) = elim (cases_lt f e) [
      | inl k ↦ omega (arith, triangle_step (f + 1) (e + 1) (omega arith))
      | inr k ↦ let same : f ≡ e = omega arith in let t : triangle (f + 1) ≡ triangle (e + 1) = ap (λ x. triangle (x + 1)) same in omega (arith, t)
    ] in
    record {
      few = omega (arith, r.few);
      narrow = r.narrow;
      fits = omega (arith, r.fits, mul-le-mul_right {m = triangle (f + 1)} {n = triangle (e + 1)} n up);
    }

-- a cell of another span stays where a value is added
pub place_narrow : (n b f a c e d : ℕ) → b < f → f < e → a < n → place n b f a < place n c e d
unfolding place
place_narrow n b f a c e d h k l = apart n (triangle f + b) (triangle e + c) a d (row_narrow b f c e h k) l

pub place_later : (n b c e a d : ℕ) → b < c → a < n → place n b e a < place n c e d
unfolding place
place_later n b c e a d h l = apart n (triangle e + b) (triangle e + c) a d (omega arith) l

pub place_from : (n b e a : ℕ) → place n b e a ≡ place n b e 0 + a
unfolding place
place_from n b e a = omega arith

pub place_after : (n b c e a : ℕ) → b < c → place n b e n ≤ place n c e a
unfolding place
place_after n b c e a h =
    let l : triangle e + b + 1 ≤ triangle e + c = omega arith in
    omega (arith, mul-le-mul_right {m = triangle e + b + 1} {n = triangle e + c} n l, add-mul (triangle e + b) 1 n)

-- a span lies in its end's column
pub column_from : (n b e a : ℕ) → place n 0 e 0 ≤ place n b e a
unfolding place
column_from n b e a =
    let l : triangle e + 0 ≤ triangle e + b = omega arith in
    omega (arith, mul-le-mul_right {m = triangle e + 0} {n = triangle e + b} n l)

pub column_size : (n u e : ℕ) → place n 0 e 0 + u * n ≡ place n u e 0
unfolding place
column_size n u e =
    let t : triangle e + 0 + u ≡ triangle e + u = omega arith in
    omega (arith, add-mul (triangle e + 0) u n, ap (λ k. k * n) t)

pub column_within : (n u e slots : ℕ) → u ≤ e → Room n e slots → place n 0 e 0 + u * n ≤ slots
unfolding place
column_within n u e slots h r =
    let l : triangle e + u ≤ triangle (e + 1) = omega (arith, triangle_more e) in
    omega (arith, r.fits, add-mul (triangle e) u n, mul-le-mul_right {m = triangle e + u} {n = triangle (e + 1)} n l)

-- the next column begins where this one ends
pub column_next : (n e : ℕ) → place n e e 0 ≡ place n 0 (e + 1) 0
unfolding place
column_next n e =
    let t : triangle e + e ≡ triangle (e + 1) + 0 = omega (arith, triangle_more e) in
    ap (λ k. k * n + 0) t

-- the same cell of the span with one entry more at its end, and of the one that begins an entry later
pub place_wider : (n b e a : ℕ) → place n b (e + 1) a ≡ place n b e a + e * n
unfolding place
place_wider n b e a =
    let t : triangle (e + 1) + b ≡ triangle e + b + e = omega (arith, triangle_more e) in
    omega (arith, ap (λ k. k * n) t, add-mul (triangle e + b) e n)

pub place_next : (n b e a : ℕ) → place n (b + 1) e a ≡ place n b e a + n
unfolding place
place_next n b e a =
    let t : triangle e + (b + 1) ≡ triangle e + b + 1 = omega arith in
    omega (arith, ap (λ k. k * n) t, add-mul (triangle e + b) 1 n)

triangle_last : triangle 65 ≡ 2080
unfolding triangle
triangle_last = refl

pub place_small : (n b e : ℕ) → n ≤ 4096 → e ≤ 64 → b ≤ e → place n b e 0 ≤ 16777216
unfolding place
place_small n b e h k l =
    let most : triangle e + b ≤ 2080 = omega (arith, triangle_step e 65 (omega arith), triangle_last) in
    omega (arith, mul-le-mul most h)
