-- A table grammar shows what every grammar must show; and reading one row is reading one rule. Assumes nothing.
use Rattle.std.specs.Prelude.{◌≡◌, ℕ, zero, suc, ◌+◌, ◌<◌, ◌≤◌, true, ◌&&◌, List, [], ◌∷◌, ◌++◌, map, length, Some, None, ◌==◌, ◌≢◌, nat_le, nat_lt, slice_get, refl}
use Rattle.std.proofs.Common.{sym, ap, subst, ◌∙◌, add-zero, arith}
use Rattle.std.proofs.lemmas.List.{length-map}
use Rattle.std.proofs.lemmas.Bool.{ltb-true, leb-true, eqb-true, le-leb, eq-eqb, and_parts, and_from}
use Rattle.grammar.specs.declared.rule.Rule.{Rule}
use Rattle.grammar.specs.declared.rule.Expansion.{Expansion}
use Rattle.grammar.specs.declared.rule.Expansion.TheVariants.{Pair, Leaf}
use Rattle.grammar.specs.Grammars.{Meaning, Declared, Shown}
use Rattle.table.specs.Tables.{numbered, rule_of, names, is_declared, as_added, fine, all_fine, table_meaning}

pub no_some : {X : Type 0} {x : X} → None ≢ Some x
no_some e = let z : ◌≡◌ {A = ℕ} 0 1 = cc in omega arith

-- what a fine row says
pub record Fine (n t i : ℕ) (r : Rule) : Type 0 where
  pub declared : is_declared n t r.lhs r.expansion ≡ true
  pub cheap : r.cost ≤ 65535
  pub own : r.bottom ≡ i

fine_says : (n t i : ℕ) (r : Rule) → fine n t i r ≡ true → Fine n t i r
fine_says n t i r f =
    let p = and_parts (is_declared n t r.lhs r.expansion) (nat_le r.cost 65535 && r.bottom == i) f in
    let q = and_parts (nat_le r.cost 65535) (r.bottom == i) p.1 in
    record { declared = p.0; cheap = leb-true r.cost 65535 q.0; own = eqb-true r.bottom i q.1 }

pub fine_from : (n t i : ℕ) (r : Rule) → is_declared n t r.lhs r.expansion ≡ true → r.cost ≤ 65535 → r.bottom ≡ i → fine n t i r ≡ true
fine_from n t i r d cheap own = and_from _ _ d (and_from _ _ (le-leb r.cost 65535 cheap) (eq-eqb r.bottom i own))

fine_first : (n t i : ℕ) (r : Rule) (rows : List Rule) → all_fine n t i (r ∷ rows) ≡ true → Fine n t i r
fine_first n t i r rows f = fine_says n t i r (and_parts (fine n t i r) (all_fine n t (suc i) rows) f).0

fine_rest : (n t i : ℕ) (r : Rule) (rows : List Rule) → all_fine n t i (r ∷ rows) ≡ true → all_fine n t (suc i) rows ≡ true
fine_rest n t i r rows f = (and_parts (fine n t i r) (all_fine n t (suc i) rows) f).1

-- what stands in row i of fine rows is rule i, or none from their count on
pub row_means : (n t j : ℕ) (rows : List Rule) (i : ℕ) → all_fine n t j rows ≡ true → slice_get rows i ≡ rule_of (j + i) (slice_get (map as_added rows) i)
row_means n t j [] i f = refl
row_means n t j (r ∷ rows) zero f =
    ap (λ b. Some (numbered b (as_added r))) ((fine_first n t j r rows f).own ∙ sym (add-zero j))
row_means n t j (r ∷ rows) (suc i) f =
    row_means n t (suc j) rows i (fine_rest n t j r rows f)
    ∙ ap (λ b. rule_of b (slice_get (map as_added rows) i)) (omega arith)

-- from their count on there is no rule, whatever the rows are
pub row_past : (rows : List Rule) (i k : ℕ) → length rows ≤ i → rule_of k (slice_get (map as_added rows) i) ≡ None
row_past [] i k h = refl
row_past (r ∷ rows) zero k h = absurd (omega arith)
row_past (r ∷ rows) (suc i) k h = row_past rows i k (omega arith)

-- what is at a number is below the count, and is one of the fine rows
found : (n t j : ℕ) (rows : List Rule) (i k : ℕ) (r : Rule) → all_fine n t j rows ≡ true → rule_of k (slice_get (map as_added rows) i) ≡ Some r → (i < length rows) × (is_declared n t r.lhs r.expansion ≡ true) × (r.cost ≤ 65535)
found n t j [] i k r f e = absurd (no_some e)
found n t j (x ∷ rows) zero k r f e =
    let first = fine_first n t j x rows f in
    let same : numbered k (as_added x) ≡ r = cc in
    (omega arith, subst (λ y. is_declared n t y.lhs y.expansion ≡ true) same first.declared, subst (λ y. y.cost ≤ 65535) same first.cheap)
found n t j (x ∷ rows) (suc i) k r f e =
    let h = found n t (suc j) rows i k r (fine_rest n t j x rows f) e in
    (omega (arith, h.0), h.1, h.2)

named : (m : Meaning) (n t : ℕ) (e : Expansion) → n ≡ m.nonterminals → t ≡ m.codes → names n t e ≡ true → Declared m e
named m n t (Pair left right) p q e =
    let both = and_parts (nat_lt left n) (nat_lt right n) e in
    let a = ltb-true left n both.0 in
    let b = ltb-true right n both.1 in
    (omega arith, omega arith)
named m n t (Leaf code) p q e = let a = ltb-true code t e in omega arith

pub table_shown : (n t start : ℕ) (rows : List Rule) → 1 ≤ n → n ≤ 32 → 1 ≤ t → t ≤ 32 → start < n → length rows ≤ 256 → all_fine n t 0 rows ≡ true → Shown (table_meaning n t start (map as_added rows))
table_shown n t start rows some few readable coded begins short all = record {
  some = some;
  few = omega arith;
  readable = readable;
  coded = coded;
  bounded = omega (arith, length-map rows as_added);
  rules = λ i r e.
      let f = found n t 0 rows i i r all e in
      let p = and_parts (nat_lt r.lhs n) (names n t r.expansion) f.1 in
      record {
        numbered = omega (arith, f.0, length-map rows as_added);
        from = ltb-true r.lhs n p.0;
        into = named (table_meaning n t start (map as_added rows)) n t r.expansion refl refl p.1;
        cheap = f.2;
      };
  starts = λ a e. subst (λ (z : ℕ). z < n) (sym (eqb-true a start e)) begins;
}

-- one fine row more, with the next number
pub all_push : (n t j : ℕ) (rows : List Rule) (r : Rule) → all_fine n t j rows ≡ true → fine n t (j + length rows) r ≡ true → all_fine n t j (rows ++ (r ∷ [])) ≡ true
all_push n t j [] r f g = and_from _ _ (subst (λ i. fine n t i r ≡ true) (add-zero j) g) refl
all_push n t j (x ∷ rows) r f g =
    let p = and_parts (fine n t j x) (all_fine n t (suc j) rows) f in
    let e : j + suc (length rows) ≡ suc j + length rows = omega arith in
    and_from _ _ p.0 (all_push n t (suc j) rows r p.1 (subst (λ i. fine n t i r ≡ true) e g))
