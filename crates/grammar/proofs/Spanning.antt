-- The one step in the words of cells: filled cells stand, and cells that stand are filled. Assumes nothing.
use Rattle.std.proofs.Common.{◌≡◌, ℕ, zero, suc, ◌+◌, ◌-◌, ◌<◌, ◌≤◌, cond, ◌&&◌, eqb, List, [], ◌∷◌, length, get_or, take, drop, Some, None, Option, sym, refl, ap, ◌∙◌, subst, inl, inr, arith, length-drop, length-take, take_all, drop-cons, take-take, drop-drop, eq-eqb, ne_eqb}
use Rattle.std.proofs.lemmas.List.{drop-take}
use Rattle.std.proofs.lemmas.Bool.{cases_eq}
use Rattle.semiring.specs.Semirings.{Operations, Laws, sum_below}
use Rattle.semiring.proofs.Sums.{sum_same}
use Rattle.grammar.specs.declared.rule.Expansion.{Expansion}
use Rattle.grammar.specs.declared.rule.Expansion.TheVariants.{Pair, Leaf}
use Rattle.grammar.specs.declared.rule.Rule.{Rule}
use Rattle.grammar.specs.Grammars.{Meaning, Shown}
use Rattle.grammar.specs.Derivations.{has, DerivesEntries}
use Rattle.grammar.specs.Totals.{TotalOf, weight_of}
use Rattle.grammar.specs.Spans.{span, cut_term, share, rule_share, shares, Filled, Stands, inside}
use Rattle.grammar.proofs.Closure.{total_none, total_value}
use Rattle.grammar.proofs.Shapes.{entries_length, some_leaf}
use Rattle.grammar.proofs.Terms.{leaf_term, expansion_term, rule_term, cell_sum}
use Rattle.grammar.proofs.Step.{total_step}
use Rattle.grammar.proofs.Unique.{total_unique}

pub span_length : (es : List ℕ) (begin end : ℕ) → end ≤ length es → length (span es begin end) ≡ end - begin
span_length es begin end h = let a = length-take (end - begin) (drop begin es) in let b = length-drop begin es in omega arith

pub span_front : (es : List ℕ) (begin end k : ℕ) → k ≤ end - begin → take k (span es begin end) ≡ span es begin (begin + k)
span_front es begin end k h = take-take k (end - begin) (drop begin es) h ∙ ap (λ n. take n (drop begin es)) (omega arith)

pub span_back : (es : List ℕ) (begin end k : ℕ) → k ≤ end - begin → drop k (span es begin end) ≡ span es (begin + k) end
span_back es begin end k h =
    let split : end - begin ≡ k + (end - (begin + k)) = omega arith in
    ap (λ n. drop k (take n (drop begin es))) split ∙ drop-take k (end - (begin + k)) (drop begin es) ∙ ap (take (end - (begin + k))) (drop-drop k begin es)

pub span_one : (es : List ℕ) (begin : ℕ) → begin < length es → span es begin (begin + 1) ≡ get_or es begin 0 ∷ []
span_one es begin h =
    let one : begin + 1 - begin ≡ 1 = omega arith in
    ap (λ n. take n (drop begin es)) one ∙ ap (take 1) (drop-cons es begin 0 h)

pub span_all : (es : List ℕ) → span es 0 (length es) ≡ es
span_all es = take_all (length es - 0) es (omega arith)

-- the shares of the rules in a cell are the sum over rules and cuts for the span's entries
module _ {S : Type 0} (s : Operations S) (cell : ℕ → ℕ → ℕ → S) (es : List ℕ) (begin end : ℕ) (some : begin < end) (fits : end ≤ length es) where
  leaf_long : (w : S) (c : ℕ) (l : List ℕ) → 2 ≤ length l → leaf_term s w c l ≡ s.zero
  leaf_long w c [] h = refl
  leaf_long w c (e ∷ []) h = absurd (omega arith)
  leaf_long w c (e ∷ e' ∷ l) h = refl

  abbrev last : ℕ
  last = get_or es (end - 1) 0

  abbrev left : ℕ → ℕ → S
  left k B = cell begin (begin + k) B

  abbrev right : ℕ → ℕ → S
  right k C = cell (begin + k) end C

  share_term : (w : S) (x : Expansion) → share s cell w last begin end x ≡ expansion_term s w left right (span es begin end) x
  share_term w (Leaf a) = elim (cases_eq (begin + 1) end) [
    | inl same ↦
        let at : end - 1 ≡ begin = omega arith in
        let one : span es begin end ≡ get_or es begin 0 ∷ [] = ap (span es begin) (sym same) ∙ span_one es begin (omega arith) in
        ap (λ t. cond (t && has last a) w s.zero) (eq-eqb (begin + 1) end same)
        ∙ ap (λ k. cond (has (get_or es k 0) a) w s.zero) at
        ∙ sym (ap (leaf_term s w a) one)
    | inr other ↦
        ap (λ t. cond (t && has last a) w s.zero) (ne_eqb (begin + 1) end other)
        ∙ sym (leaf_long w a (span es begin end) (omega (arith, span_length es begin end fits, other)))
  ]
  share_term w (Pair b c) =
      let count : end - (begin + 1) ≡ length (span es begin end) - 1 = omega (arith, span_length es begin end fits) in
      ap (λ k. sum_below s k (cut_term s cell w begin end b c)) count
      ∙ sum_same s (length (span es begin end) - 1) _ (λ j. s.times w (s.times (left (suc j) b) (right (suc j) c)))
      (λ k h. let at : begin + 1 + k ≡ begin + suc k = omega arith in
      ap (λ e. s.times w (s.times (cell begin e b) (cell e end c))) at)

  rule_term_lem : (weigh : Rule → S) (a : ℕ) (o : Option Rule) → rule_share s cell weigh last begin end a o ≡ rule_term s weigh a left right (span es begin end) o
  rule_term_lem weigh a None = refl
  rule_term_lem weigh a (Some r) = ap (λ x. cond (eqb r.lhs a) x s.zero) (share_term (weigh r) r.expansion)

  shares_term : (weigh : Rule → S) (m : Meaning) (a : ℕ) → shares s cell weigh m last begin end a m.bound ≡ cell_sum s weigh m a left right (span es begin end)
  shares_term weigh m a = sum_same s m.bound _ _ (λ i h. rule_term_lem weigh a (m.rule i))

module _ {S : Type 0} {s : Operations S} (laws : Laws s) (weigh : Rule → S) (m : Meaning) (shown : Shown m) where
  -- v is the total of the derivations of the entries es from A
  abbrev Is : ℕ → List ℕ → S → Type 0
  Is A es v = TotalOf s (DerivesEntries m A es) (weight_of s weigh m) v

  pub span_step : (es : List ℕ) (cell : ℕ → ℕ → ℕ → S) (begin end A : ℕ) → begin < end → end ≤ length es
      → ((b e B : ℕ) → b < e → begin ≤ b → e ≤ end → e - b < end - begin → B < m.nonterminals → Is B (span es b e) (cell b e B))
      → Is A (span es begin end) (shares s cell weigh m (get_or es (end - 1) 0) begin end A m.bound)
  span_step es cell begin end A some fits narrower =
      let l = span_length es begin end fits in
      total_value laws (sym (shares_term s cell es begin end some fits weigh m A))
      (total_step laws weigh m shown A (span es begin end) (λ k B. cell begin (begin + k) B) (λ k C. cell (begin + k) end C)
      (λ k B low high name. subst (λ r. Is B r (cell begin (begin + k) B)) (sym (span_front es begin end k (omega arith))) (narrower begin (begin + k) B (omega arith) (omega arith) (omega arith) (omega arith) name))
      (λ k C low high name. subst (λ r. Is C r (cell (begin + k) end C)) (sym (span_back es begin end k (omega arith))) (narrower (begin + k) end C (omega arith) (omega arith) (omega arith) (omega arith) name)))

  stands_within : (es : List ℕ) (cell : ℕ → ℕ → ℕ → S) → Filled s weigh m es cell → (width begin end A : ℕ) → end - begin ≤ width → begin < end → end ≤ length es → A < m.nonterminals
      → Is A (span es begin end) (cell begin end A)
  stands_within es cell filled zero begin end A small some fits name = absurd (omega arith)
  stands_within es cell filled (suc width) begin end A small some fits name =
      total_value laws (sym (filled begin end A some fits name))
      (span_step es cell begin end A some fits (λ b e B some' low high narrow name'. stands_within es cell filled width b e B (omega arith) some' (omega arith) name'))

  -- filled cells stand
  pub filled_stands : (es : List ℕ) (cell : ℕ → ℕ → ℕ → S) → Filled s weigh m es cell → Stands s weigh m es cell
  filled_stands es cell filled begin end A = stands_within es cell filled (end - begin) begin end A (omega arith)

  -- cells that stand are filled, since a total is unique
  pub stands_filled : (es : List ℕ) (cell : ℕ → ℕ → ℕ → S) → Stands s weigh m es cell → Filled s weigh m es cell
  stands_filled es cell stands begin end A some fits name =
      total_unique laws (weight_of s weigh m) (stands begin end A some fits name)
      (span_step es cell begin end A some fits (λ b e B some' low high narrow name'. stands b e B some' (omega arith) name'))

  inside_span : (es : List ℕ) (depth begin end A : ℕ) → end - begin ≤ depth → begin < end → end ≤ length es → Is A (span es begin end) (inside s weigh m es depth begin end A)
  inside_span es zero begin end A small some fits = absurd (omega arith)
  inside_span es (suc depth) begin end A small some fits =
      span_step es (inside s weigh m es depth) begin end A some fits (λ b e B some' low high narrow name. inside_span es depth b e B (omega arith) some' (omega arith))

  -- the sum over rules and cuts, worked out all the way down
  pub inside_total : (es : List ℕ) (A : ℕ) → Is A es (inside s weigh m es (length es) 0 (length es) A)
  inside_total [] A = total_none laws (weight_of s weigh m) (λ t d. let a = entries_length m A [] t d in let b = some_leaf t in omega arith)
  inside_total (e ∷ es) A =
      subst (λ l. Is A l (inside s weigh m (e ∷ es) (length (e ∷ es)) 0 (length (e ∷ es)) A)) (span_all (e ∷ es))
      (inside_span (e ∷ es) (length (e ∷ es)) 0 (length (e ∷ es)) A (omega arith) (omega arith) (omega arith))
