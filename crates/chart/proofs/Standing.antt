-- Filling one column more keeps the cells filled. Assumes nothing.
use Rattle.std.proofs.Common.{◌≡◌, ℕ, ◌+◌, ◌-◌, ◌<◌, ◌≤◌, List, [], ◌∷◌, ◌++◌, length, get_or, sym, ap, ◌∙◌, subst, inl, inr, arith}
use Rattle.std.proofs.lemmas.Bool.{cases_lt}
use Rattle.std.proofs.lemmas.List.{length_push, get_or_push, get_or_append_left}
use Rattle.semiring.specs.Semirings.{Operations, Laws}
use Rattle.grammar.specs.Grammars.{Meaning, Shown}
use Rattle.chart.specs.Cells.{place, cell_at}
use Rattle.grammar.specs.declared.rule.Rule.{Rule}
use Rattle.grammar.specs.Spans.{shares, Filled, Stands}
use Rattle.grammar.proofs.Spanning.{filled_stands, stands_filled}
use Rattle.chart.specs.Columns.{Column}
use Rattle.chart.proofs.Places.{place_narrow}
use Rattle.chart.proofs.Rows.{Agree}
use Rattle.chart.proofs.ColumnSteps.{shares_same}

module _ {S : Type 0} {ops : Operations S} (laws : Laws ops) (weigh : Rule → S) (m : Meaning) (shown : Shown m) where
  abbrev n : ℕ
  n = m.nonterminals

  pub filled_more : (es : List ℕ) (bits : ℕ) (xs ys : List S) → Filled ops weigh m es (cell_at ops n xs)
      → Column ops weigh m bits 0 (length es + 1) (length es + 1) xs ys → Filled ops weigh m (es ++ (bits ∷ [])) (cell_at ops n ys)
  filled_more es bits xs ys filled column begin end a h1 h2 h3 = elim (cases_lt end (length es + 1)) [
    | inl early ↦
        let before : (b f c : ℕ) → b < f → f ≤ end → c < n → cell_at ops n xs b f c ≡ cell_at ops n ys b f c =
        λ b f c l1 l2 l3. sym (column.kept (place n b f c) (inl (place_narrow n b f c 0 (length es + 1) 0 l1 (omega arith) l3))) in
        let same : get_or es (end - 1) 0 ≡ get_or (es ++ (bits ∷ [])) (end - 1) 0 = sym (get_or_append_left es (bits ∷ []) 0 (end - 1) (omega arith)) in
        let agree : Agree laws n begin end (cell_at ops n xs) (cell_at ops n ys) =
        λ k c l1 l2 l3. (before begin k c l1 (omega arith) l3, before k end c l2 (omega arith) l3) in
        sym (before begin end a h1 (omega arith) h3)
        ∙ filled begin end a h1 (omega arith) h3
        ∙ shares_same laws weigh m (get_or es (end - 1) 0) end end shown (cell_at ops n xs) (cell_at ops n ys) begin a m.bound agree
        ∙ ap (λ e. shares ops (cell_at ops n ys) weigh m e begin end a m.bound) same
    | inr late ↦
        let whole : length es + 1 ≡ end = omega (arith, h2, length_push es bits) in
        let last : bits ≡ get_or (es ++ (bits ∷ [])) (end - 1) 0 = sym (get_or_push es bits 0 (end - 1) (omega arith)) in
        subst (λ f. cell_at ops n ys begin f a ≡ shares ops (cell_at ops n ys) weigh m bits begin f a m.bound) whole
        (column.cells begin a (omega arith) (omega arith) h3)
        ∙ ap (λ e. shares ops (cell_at ops n ys) weigh m e begin end a m.bound) last
  ]

  -- a column more, and each cell is its total again
  pub stands_more : (es : List ℕ) (bits : ℕ) (xs ys : List S) → Column ops weigh m bits 0 (length es + 1) (length es + 1) xs ys
      → Stands ops weigh m es (cell_at ops n xs) → Stands ops weigh m (es ++ (bits ∷ [])) (cell_at ops n ys)
  stands_more es bits xs ys column stands =
      filled_stands laws weigh m shown (es ++ (bits ∷ [])) (cell_at ops n ys) (filled_more es bits xs ys (stands_filled laws weigh m shown es (cell_at ops n xs) stands) column)
