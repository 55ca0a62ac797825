-- One span more in a column. Assumes nothing.
use Rattle.std.proofs.Common.{◌≡◌, ℕ, ◌+◌, ◌<◌, ◌≤◌, cond, eqb, List, Some, None, Option, sym, refl, ap, ◌∙◌, subst, inl, inr, arith}
use Rattle.std.proofs.lemmas.Bool.{cases_eq}
use Rattle.semiring.specs.Semirings.{Operations, Laws}
use Rattle.grammar.specs.declared.rule.Rule.{Rule}
use Rattle.grammar.specs.Grammars.{Meaning, Shown}
use Rattle.chart.specs.Cells.{place, cell_at}
use Rattle.grammar.specs.Spans.{rule_share, shares}
use Rattle.semiring.proofs.Sums.{sum_same}
use Rattle.chart.specs.Columns.{Row, Column, Cleared}
use Rattle.chart.proofs.Places.{place_narrow, place_later, place_from, place_after, column_from}
use Rattle.chart.proofs.Rows.{Agree, share_same, names_of}

module _ {S : Type 0} {ops : Operations S} (laws : Laws ops) (weigh : Rule → S) (m : Meaning) (bits upto end : ℕ) where
  abbrev n : ℕ
  n = m.nonterminals

  pub column_none : (xs ys : List S) → Cleared ops n end upto xs ys → Column ops weigh m bits upto upto end ys ys
  column_none xs ys cleared = record {
    kept = λ q h. refl;
    cells = λ b a h1 h2 h3. absurd (omega arith);
    zeros = λ b a h1 h2 h3. cleared.zeros (place n b end a) (column_from n b end a)
        (omega (arith, place_after n b upto end 0 h2, place_from n b end a, place_from n b end n));
  }

  rule_same : Shown m → (cell cell' : ℕ → ℕ → ℕ → S) (begin a k : ℕ) → Agree laws n begin end cell cell' → (o : Option Rule) → m.rule k ≡ o
      → rule_share ops cell weigh bits begin end a o ≡ rule_share ops cell' weigh bits begin end a o
  rule_same shown cell cell' begin a k agree None e = refl
  rule_same shown cell cell' begin a k agree (Some r) e =
      ap (λ s. cond (eqb r.lhs a) s ops.zero)
      (share_same laws n cell cell' (weigh r) bits begin end r.expansion (names_of m r.expansion (shown.rules k r e).into) agree)

  pub shares_same : Shown m → (cell cell' : ℕ → ℕ → ℕ → S) (begin a k : ℕ) → Agree laws n begin end cell cell'
      → shares ops cell weigh m bits begin end a k ≡ shares ops cell' weigh m bits begin end a k
  shares_same shown cell cell' begin a k agree = sum_same ops k _ _ (λ i h. rule_same shown cell cell' begin a i agree (m.rule i) refl)

  module _ (shown : Shown m) (begin : ℕ) (h : begin < upto) (ys zs : List S) (row : Row ops weigh m bits begin end m.bound ys zs) where
    -- the spans inside (b, end) are not those of (begin, end)
    agree : (b : ℕ) → begin ≤ b → Agree laws n b end (cell_at ops n ys) (cell_at ops n zs)
    agree b l j c l1 l2 hc = (
      sym (row.kept (place n b j c) (inl (place_narrow n b j c begin end 0 l1 l2 hc))),
      sym (row.kept (place n j end c) (inr (place_after n begin j end c (omega arith)))),
    )

    pub column_more : (xs : List S) → Column ops weigh m bits (begin + 1) upto end xs ys → Column ops weigh m bits begin upto end xs zs
    column_more xs column = record {
      kept = λ q far. row.kept q (elim far [
        | inl l ↦ inl (omega (arith, l, column_from n begin end 0))
        | inr l ↦ inr (omega (arith, l, place_after n begin upto end 0 h))
      ]) ∙ column.kept q far;
      cells = λ b a l1 l2 l3. elim (cases_eq begin b) [
        | inl same ↦ subst (λ b. cell_at ops n zs b end a ≡ shares ops (cell_at ops n zs) weigh m bits b end a m.bound) same
            (row.cells a l3
            ∙ ap (λ x. ops.plus x (shares ops (cell_at ops n ys) weigh m bits begin end a m.bound)) (column.zeros begin a (omega arith) h l3)
            ∙ laws.zero_plus (shares ops (cell_at ops n ys) weigh m bits begin end a m.bound)
            ∙ shares_same shown (cell_at ops n ys) (cell_at ops n zs) begin a m.bound (agree begin (omega arith)))
        | inr other ↦
            let later : begin < b = omega (arith, other) in
            row.kept (place n b end a) (inr (place_after n begin b end a later))
            ∙ column.cells b a (omega arith) l2 l3
            ∙ shares_same shown (cell_at ops n ys) (cell_at ops n zs) b a m.bound (agree b l1)
      ];
      zeros = λ b a l1 l2 l3.
          row.kept (place n b end a) (inl (place_later n b begin end a 0 l1 l3)) ∙ column.zeros b a (omega arith) l2 l3;
    }
