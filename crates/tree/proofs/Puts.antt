-- Parts written one after another. Assumes nothing.
use Rattle.std.proofs.Common.{◌≡◌, ℕ, zero, suc, ◌+◌, ◌<◌, ◌≤◌, List, [], ◌∷◌, ◌++◌, length, take, drop, set, sym, refl, ap, ◌∙◌, append_assoc, le_of_suc-le-suc, not-suc-le-zero, add_assoc, add-one, arith, length-append, length-take-le, drop-drop, take_at}
use lib.Seq.{drop-append-add}
use Rattle.tree.specs.declared.record.Record.{Record}
use Rattle.tree.specs.Steps.{put}

one : (old : List Record) (at : ℕ) (r : Record) → at < length old → set old at r ≡ take at old ++ (r ∷ drop (suc at) old)
one [] at r h = absurd (not-suc-le-zero h)
one (x ∷ xs) zero r h = refl
one (x ∷ xs) (suc at) r h = ap (λ l. x ∷ l) (one xs at r (le_of_suc-le-suc h))

pub put_one : (old : List Record) (at : ℕ) (r : Record) → at < length old → set old at r ≡ put old at (r ∷ [])
put_one old at r h = one old at r h ∙ ap (λ n. take at old ++ (r ∷ drop n old)) (sym (add-one at))

-- two parts, the second after the first
pub put_put : (old : List Record) (at : ℕ) (p q : List Record) (next : ℕ) → at + length p ≤ length old → next ≡ at + length p → put (put old at p) next q ≡ put old at (p ++ q)
put_put old at p q next h e =
    let front = take at old ++ p in
    let rest = drop (at + length p) old in
    let long : length front ≡ at + length p = length-append (take at old) p ∙ ap (λ n. n + length p) (length-take-le at old (omega arith)) in
    let whole : put old at p ≡ front ++ rest = sym (append_assoc (take at old) p rest) in
    let a : take next (put old at p) ≡ front = ap (take next) whole ∙ take_at front rest next (long ∙ sym e) in
    let b : drop (next + length q) (put old at p) ≡ drop (at + length (p ++ q)) old =
    ap (drop (next + length q)) whole
    ∙ ap (λ n. drop (n + length q) (front ++ rest)) (e ∙ sym long)
    ∙ drop-append-add front rest (length q)
    ∙ drop-drop (length q) (at + length p) old
    ∙ ap (λ n. drop n old) (add_assoc at (length p) (length q) ∙ ap (λ n. at + n) (sym (length-append p q))) in
    (λ i. a i ++ (q ++ b i)) ∙ append_assoc (take at old) p _ ∙ ap (λ l. take at old ++ l) (sym (append_assoc p q _))

-- a part from the start stands in front
pub put_front : (old part : List Record) (k : ℕ) → k ≡ length part → take k (put old 0 part) ≡ part
put_front old part k e = take_at part _ k (sym e)
