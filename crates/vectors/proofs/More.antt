-- One element more at the end of a list. Assumes nothing.
use Rattle.std.proofs.Common.{◌≡◌, ℕ, zero, suc, ◌+◌, ◌*◌, ◌/◌, ◌%◌, ◌<◌, ◌≤◌, List, [], ◌∷◌, ◌++◌, length, get_or, take, sym, refl, ap, subst, arith}
use Rattle.std.specs.Simd.{first_chunks}
use Rattle.std.proofs.lemmas.List.{take_more}
use Rattle.vectors.specs.declared.stored.Stored.{Stored}
use Rattle.vectors.specs.Hex.{digit_of, spelled}
use Rattle.vectors.specs.Jobs.{Right, AllRight}

-- one byte more
pub spelled_more : (bs : List ℕ) (b : ℕ) → spelled (bs ++ (b ∷ [])) ≡ spelled bs ++ (digit_of (b / 16) ∷ (digit_of (b % 16) ∷ []))
spelled_more [] b = refl
spelled_more (c ∷ bs) b = ap (λ l. digit_of (c / 16) ∷ (digit_of (c % 16) ∷ l)) (spelled_more bs b)

-- one pair more
pub pairs_more : (k i : ℕ) (xs : List ℕ) → i < k → k * 2 ≤ length xs
    → take ((i + 1) * 2) xs ≡ take (i * 2) xs ++ (get_or (get_or (first_chunks 2 k xs) i []) 0 0 ∷ (get_or (get_or (first_chunks 2 k xs) i []) 1 0 ∷ []))
pairs_more zero i xs h l = absurd (omega arith)
pairs_more (suc k) i [] h l = absurd (omega arith)
pairs_more (suc k) i (x ∷ []) h l = absurd (omega arith)
pairs_more (suc k) zero (x ∷ (y ∷ r)) h l = refl
pairs_more (suc k) (suc i) (x ∷ (y ∷ r)) h l =
    let next : (suc i + 1) * 2 ≡ suc (suc ((i + 1) * 2)) = omega arith in
    let here : suc i * 2 ≡ suc (suc (i * 2)) = omega arith in
    rw (next, here) (ap (λ t. x ∷ (y ∷ t)) (pairs_more k i r (omega arith) (omega arith)))

-- one right answer more at the end
right_append : (ss : List Stored) (s : Stored) → AllRight ss → Right s → AllRight (ss ++ (s ∷ []))
right_append [] s all r = (r, tt)
right_append (q ∷ ss) s all r = (all.0, right_append ss s all.1 r)

-- the first i answers are right, and so is the next
pub right_more : (ss : List Stored) (i : ℕ) (d : Stored) → i < length ss → AllRight (take i ss) → Right (get_or ss i d) → AllRight (take (i + 1) ss)
right_more ss i d h all r = subst AllRight (sym (take_more ss i d h)) (right_append (take i ss) (get_or ss i d) all r)
