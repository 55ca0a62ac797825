-- One rule more in a span. Assumes nothing.
use Rattle.std.proofs.Common.{◌≡◌, ℕ, zero, suc, ◌+◌, ◌-◌, ◌<◌, cond, ◌≢◌, List, [], ◌∷◌, length, Some, None, fold, Option, sym, refl, ap, ◌∙◌, subst, ap₂, inl, inr, add-one, arith, eq-eqb, ne_eqb}
use mathlib.Core.Path.{subst⁻¹}
use Rattle.std.proofs.lemmas.List.{get_or-set_same, get_or-set_other, length-set}
use Rattle.std.proofs.lemmas.List.Sums.{fold_push}
use Rattle.std.proofs.lemmas.Bool.{cases_eq}
use Rattle.semiring.specs.Semirings.{Operations, Laws, sum_below}
use Rattle.grammar.specs.declared.rule.Expansion.{Expansion}
use Rattle.grammar.specs.declared.rule.Expansion.TheVariants.{Pair, Leaf}
use Rattle.grammar.specs.declared.rule.Rule.{Rule}
use Rattle.grammar.specs.Grammars.{Meaning, Shown, Declared}
use Rattle.grammar.specs.Spans.{share, rule_share, shares}
use Rattle.semiring.proofs.Sums.{sum_more, sum_none, sum_same}
use Rattle.chart.specs.Cells.{place, cell_at, added, cut_product, cut_sum, Room, Names}
use Rattle.chart.specs.Columns.{with_rule, with_any, Row}
use Rattle.chart.specs.Gathers.{pushed, rules_below}
use Rattle.chart.proofs.Places.{place_narrow, place_from, place_after, inside}

-- the names of a declared expansion
pub names_of : (m : Meaning) (x : Expansion) → Declared m x → Names m.nonterminals x
names_of m (Pair b c) p = p
names_of m (Leaf a) p = tt

module _ {S : Type 0} {ops : Operations S} (laws : Laws ops) where
  -- a product with a sum is the sum of the products
  pub times-sum : (w : S) (k : ℕ) (f : ℕ → S) → ops.times w (sum_below ops k f) ≡ sum_below ops k (λ i. ops.times w (f i))
  unfolding sum_below
  times-sum w zero f = laws.times_zero w
  times-sum w (suc k) f = laws.times_plus w (sum_below ops k f) (f k) ∙ ap (λ x. ops.plus x (ops.times w (f k))) (times-sum w k f)

  -- two tables of cells that agree on the narrower spans inside (begin, end)
  abbrev pub Agree : ℕ → ℕ → ℕ → (ℕ → ℕ → ℕ → S) → (ℕ → ℕ → ℕ → S) → Type 0
  Agree n begin end cell cell' = (k b : ℕ) → begin < k → k < end → b < n → (cell begin k b ≡ cell' begin k b) × (cell k end b ≡ cell' k end b)

  pub cut_sum_same : (n : ℕ) (cell cell' : ℕ → ℕ → ℕ → S) (begin end b c : ℕ) → b < n → c < n → Agree n begin end cell cell'
      → cut_sum ops cell begin end b c ≡ cut_sum ops cell' begin end b c
  cut_sum_same n cell cell' begin end b c hb hc agree =
      sum_same ops (end - (begin + 1)) (cut_product ops cell begin end b c) (cut_product ops cell' begin end b c)
      (λ k h. ap₂ ops.times
      (agree (begin + 1 + k) b (omega arith) (omega arith) hb).0
      (agree (begin + 1 + k) c (omega arith) (omega arith) hc).1)

  pub share_same : (n : ℕ) (cell cell' : ℕ → ℕ → ℕ → S) (w : S) (bits begin end : ℕ) (x : Expansion)
      → Names n x → Agree n begin end cell cell'
      → share ops cell w bits begin end x ≡ share ops cell' w bits begin end x
  share_same n cell cell' w bits begin end (Leaf a) names agree = refl
  share_same n cell cell' w bits begin end (Pair b c) names agree =
      sym (times-sum w _ (cut_product ops cell begin end b c))
      ∙ ap (ops.times w) (cut_sum_same n cell cell' begin end b c names.0 names.1 agree)
      ∙ times-sum w _ (cut_product ops cell' begin end b c)

  module _ (weigh : Rule → S) (m : Meaning) (bits begin end : ℕ) (xs : List S) where
    abbrev n : ℕ
    n = m.nonterminals

    abbrev term : ℕ → ℕ → S
    term a i = rule_share ops (cell_at ops n xs) weigh bits begin end a (m.rule i)

    pub row_none : Row ops weigh m bits begin end 0 xs xs
    row_none = record {
      kept = λ q h. refl;
      cells = λ a h. sym (ap (ops.plus (cell_at ops n xs begin end a)) (sum_none ops (term a)) ∙ laws.plus_zero (cell_at ops n xs begin end a));
    }

    module _ (k : ℕ) (ys : List S) (row : Row ops weigh m bits begin end k xs ys) where
      agree : begin < end → Agree n begin end (cell_at ops n ys) (cell_at ops n xs)
      agree h j b l1 l2 hb = (
        row.kept (place n begin j b) (inl (place_narrow n begin j b begin end 0 l1 l2 hb)),
        row.kept (place n j end b) (inr (place_after n begin j end b l1)),
      )

      -- the sum so far, where the rule k adds v to the cell
      one_more : (a : ℕ) (v c : S) → c ≡ ops.plus (cell_at ops n ys begin end a) v → a < n → term a k ≡ v
          → c ≡ ops.plus (cell_at ops n xs begin end a) (shares ops (cell_at ops n xs) weigh m bits begin end a (k + 1))
      one_more a v c e h t =
          let x = cell_at ops n xs begin end a in
          let s = sum_below ops k (term a) in
          e ∙ ap (λ y. ops.plus y v) (row.cells a h) ∙ laws.plus_assoc x s v
          ∙ ap (ops.plus x) (ap (ops.plus s) (sym t) ∙ sym (sum_more ops k (term a)))

      same_more : (a : ℕ) (c : S) → c ≡ cell_at ops n ys begin end a → a < n → term a k ≡ ops.zero
          → c ≡ ops.plus (cell_at ops n xs begin end a) (shares ops (cell_at ops n xs) weigh m bits begin end a (k + 1))
      same_more a c e h t = one_more a ops.zero c (e ∙ sym (laws.plus_zero (cell_at ops n ys begin end a))) h t

      step : begin < end → Room n end (length ys) → Shown m → (o : Option Rule) → m.rule k ≡ o
          → Row ops weigh m bits begin end (k + 1) xs (with_any ops weigh n bits begin end ys o)
      step h room shown None e = record {
        kept = row.kept;
        cells = λ a l. same_more a (cell_at ops n ys begin end a) refl l (ap (rule_share ops (cell_at ops n xs) weigh bits begin end a) e);
      }
      step h room shown (Some r) e =
          let sound = shown.rules k r e in
          let v = share ops (cell_at ops n ys) (weigh r) bits begin end r.expansion in
          let u = share ops (cell_at ops n xs) (weigh r) bits begin end r.expansion in
          let uv : u ≡ v = sym (share_same n (cell_at ops n ys) (cell_at ops n xs) (weigh r) bits begin end r.expansion (names_of m r.expansion sound.into) (agree h)) in
          let at = place n begin end r.lhs in
          let within : at < length ys = inside n begin end r.lhs (length ys) h sound.from room.fits in
          record {
            kept = λ q far.
                let ne : q ≢ at = λ d. elim far [
                  | inl l ↦ omega (arith, d, l, place_from n begin end r.lhs)
                  | inr l ↦ omega (arith, d, l, place_from n begin end r.lhs, place_from n begin end n, sound.from)
                ] in
                get_or-set_other ys at q _ ops.zero ne ∙ row.kept q far;
            cells = λ a l. elim (cases_eq r.lhs a) [
              | inl same ↦
                  one_more a v (cell_at ops n (added ops n ys begin end r.lhs v) begin end a)
                  (subst (λ b. cell_at ops n (added ops n ys begin end r.lhs v) begin end b ≡ ops.plus (cell_at ops n ys begin end b) v) same
                  (get_or-set_same ys at _ ops.zero within))
                  l
                  (ap (rule_share ops (cell_at ops n xs) weigh bits begin end a) e
                  ∙ ap (λ t. cond t u ops.zero) (eq-eqb r.lhs a same) ∙ uv)
              | inr other ↦
                  same_more a (cell_at ops n (added ops n ys begin end r.lhs v) begin end a)
                  (get_or-set_other ys at (place n begin end a) _ ops.zero
                  (λ d. other (omega (arith, d, place_from n begin end r.lhs, place_from n begin end a))))
                  l
                  (ap (rule_share ops (cell_at ops n xs) weigh bits begin end a) e
                  ∙ ap (λ t. cond t u ops.zero) (ne_eqb r.lhs a other))
            ];
          }

      pub row_more : (zs : List S) → begin < end → Room n end (length ys) → Shown m
          → zs ≡ with_any ops weigh n bits begin end ys (m.rule k)
          → Row ops weigh m bits begin end (k + 1) xs zs
      row_more zs h room shown e = subst (Row ops weigh m bits begin end (k + 1) xs) (sym e) (step h room shown (m.rule k) refl)

    -- the rules of the numbers below k, one after the other
    abbrev add : List S → Rule → List S
    add = with_rule ops weigh n bits begin end

    length_folded : (rules : List Rule) (ys : List S) → length (fold add ys rules) ≡ length ys
    length_folded [] ys = refl
    length_folded (r ∷ rules) ys = length_folded rules (add ys r) ∙ length-set ys _ _

    folded_any : (rules : List Rule) (o : Option Rule) → fold add xs (pushed rules o) ≡ with_any ops weigh n bits begin end (fold add xs rules) o
    folded_any rules None = refl
    folded_any rules (Some r) = fold_push add xs rules r

    pub row_below : begin < end → Room n end (length xs) → Shown m → (k : ℕ) → Row ops weigh m bits begin end k xs (fold add xs (rules_below m k))
    unfolding rules_below
    row_below h room shown zero = row_none
    row_below h room shown (suc k) =
        let rules = rules_below m k in
        subst (λ j. Row ops weigh m bits begin end j xs (fold add xs (rules_below m (suc k)))) (add-one k)
        (row_more k (fold add xs rules) (row_below h room shown k) _ h (subst⁻¹ (Room n end) (length_folded rules xs) room) shown (folded_any rules (m.rule k)))
