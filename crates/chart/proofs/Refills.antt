-- One column more, filled anew up to entry k. Assumes nothing.
use Rattle.std.proofs.Common.{◌≡◌, ℕ, ◌+◌, ◌-◌, ◌<◌, ◌≤◌, ◌⊎◌, List, [], ◌∷◌, ◌++◌, length, get_or, sym, ap, ◌∙◌, subst, inl, inr, arith}
use Rattle.std.proofs.lemmas.Bool.{cases_lt}
use Rattle.std.proofs.lemmas.List.{get_or_push}
use Rattle.semiring.specs.Semirings.{Operations, Laws}
use Rattle.grammar.specs.Grammars.{Meaning, Shown}
use Rattle.chart.specs.Cells.{place, cell_at}
use Rattle.grammar.specs.declared.rule.Rule.{Rule}
use Rattle.grammar.specs.Spans.{shares}
use Rattle.chart.specs.Columns.{Column, Refilled}
use Rattle.chart.proofs.Places.{place_narrow}
use Rattle.chart.proofs.ColumnSteps.{shares_same}

module _ {S : Type 0} {ops : Operations S} (laws : Laws ops) (weigh : Rule → S) (m : Meaning) (shown : Shown m) (es : List ℕ) (k : ℕ) (xs : List S) where
  abbrev n : ℕ
  n = m.nonterminals

  pub refilled_more : (end bits : ℕ) (ys zs : List S) → k < end → bits ≡ get_or es (end - 1) 0 → Refilled ops weigh m es k end xs ys
      → Column ops weigh m bits 0 (k + 1) end ys zs → Refilled ops weigh m es k (end + 1) xs zs
  refilled_more end bits ys zs h eb done column =
      let before : (b f c : ℕ) → b < f → f < end → c < n → cell_at ops n ys b f c ≡ cell_at ops n zs b f c =
      λ b f c l1 l2 l3. sym (column.kept (place n b f c) (inl (place_narrow n b f c 0 end 0 l1 l2 l3))) in
      record {
        kept = λ q far. column.kept q (far end h (omega arith)) ∙ done.kept q (λ f l1 l2. far f l1 (omega arith));
        cells = λ b f a h1 h2 h3 h4. elim (cases_lt f end) [
          | inl early ↦
              sym (before b f a (omega arith) early h4)
              ∙ done.cells b f a h1 h2 early h4
              ∙ shares_same laws weigh m (get_or es (f - 1) 0) f f shown (cell_at ops n ys) (cell_at ops n zs) b a m.bound
              (λ j c l1 l2 l3. (before b j c l1 (omega arith) l3, before j f c l2 early l3))
          | inr late ↦
              let same : end ≡ f = omega arith in
              subst (λ e. cell_at ops n zs b e a ≡ shares ops (cell_at ops n zs) weigh m (get_or es (e - 1) 0) b e a m.bound) same
              (column.cells b a (omega arith) (omega arith) h4
              ∙ ap (λ e. shares ops (cell_at ops n zs) weigh m e b end a m.bound) eb)
        ];
      }

-- where entry k is the last one, that is the column of the new end
module _ {S : Type 0} {ops : Operations S} (weigh : Rule → S) (m : Meaning) (es : List ℕ) (bits : ℕ) (xs ys : List S) where
  pub refilled_last : Refilled ops weigh m (es ++ (bits ∷ [])) (length es) (length es + 2) xs ys → Column ops weigh m bits 0 (length es + 1) (length es + 1) xs ys
  refilled_last done =
      let end = length es + 1 in
      let last : get_or (es ++ (bits ∷ [])) (end - 1) 0 ≡ bits = get_or_push es bits 0 (end - 1) (omega arith) in
      record {
        kept = λ q far. done.kept q (λ f low high.
            let same : end ≡ f = omega arith in
            subst (λ e. (q < place m.nonterminals 0 e 0) ⊎ (place m.nonterminals end e 0 ≤ q)) same far);
        cells = λ b a h1 h2 h3. done.cells b end a (omega arith) (omega arith) (omega arith) h3
            ∙ ap (λ e. shares ops (cell_at ops m.nonterminals ys) weigh m e b end a m.bound) last;
        zeros = λ b a h1 h2 h3. absurd (omega arith);
      }
