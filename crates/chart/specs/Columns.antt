-- What filling does to the slots: xs before, ys after. Assumes nothing.
use Rattle.std.specs.Prelude.{◌≡◌, ℕ, ◌+◌, ◌-◌, ◌<◌, ◌≤◌, ◌⊎◌, List, Some, None, Option, slice_index, slice_index_or}
use Rattle.grammar.specs.declared.rule.Rule.{Rule}
use Rattle.grammar.specs.Grammars.{Meaning}
use Rattle.grammar.specs.Spans.{share, shares}
use Rattle.semiring.specs.Semirings.{Operations}
use Rattle.chart.specs.Cells.{place, cell_at, added}

-- the slots with a rule's share added to its cell
abbrev pub with_rule : {S : Type 0} → Operations S → (Rule → S) → ℕ → ℕ → ℕ → ℕ → List S → Rule → List S
with_rule s weigh n last begin end xs r = added s n xs begin end r.lhs (share s (cell_at s n xs) (weigh r) last begin end r.expansion)

-- the slots with the share of the rule that there may be
abbrev pub with_any : {S : Type 0} → Operations S → (Rule → S) → ℕ → ℕ → ℕ → ℕ → List S → Option Rule → List S
with_any s weigh n last begin end xs None = xs
with_any s weigh n last begin end xs (Some r) = with_rule s weigh n last begin end xs r

-- one span, after the rules below k: to each of its cells the shares of these rules are added, and the other slots stay
pub record Row {S : Type 0} (s : Operations S) (weigh : Rule → S) (m : Meaning) (last begin end k : ℕ) (xs ys : List S) : Type 0 where
  pub kept : (q : ℕ) → (q < place m.nonterminals begin end 0) ⊎ (place m.nonterminals begin end m.nonterminals ≤ q) → slice_index_or ys q s.zero ≡ slice_index_or xs q s.zero
  pub cells : (a : ℕ) → a < m.nonterminals
      → cell_at s m.nonterminals ys begin end a
      ≡ s.plus (cell_at s m.nonterminals xs begin end a) (shares s (cell_at s m.nonterminals xs) weigh m last begin end a k)

-- the cells of the spans that begin before `upto` and end at `end` are zero, and the other slots stay
pub record Cleared {S : Type 0} (s : Operations S) (n end upto : ℕ) (xs ys : List S) : Type 0 where
  pub kept : (q : ℕ) → (q < place n 0 end 0) ⊎ (place n upto end 0 ≤ q) → slice_index_or ys q s.zero ≡ slice_index_or xs q s.zero
  pub zeros : (q : ℕ) → place n 0 end 0 ≤ q → q < place n upto end 0 → slice_index_or ys q s.zero ≡ s.zero

-- Of the spans that begin before `upto` and end at `end`, whose last entry is `last`, those that begin at `from` or later have in each cell the sum over
-- all rules and cuts, and the others are zero; all other slots stay. With `from` 0 and `upto` = `end` this is a column, filled: the spans that end at `end`.
pub record Column {S : Type 0} (s : Operations S) (weigh : Rule → S) (m : Meaning) (last from upto end : ℕ) (xs ys : List S) : Type 0 where
  pub kept : (q : ℕ) → (q < place m.nonterminals 0 end 0) ⊎ (place m.nonterminals upto end 0 ≤ q) → slice_index_or ys q s.zero ≡ slice_index_or xs q s.zero
  pub cells : (b a : ℕ) → from ≤ b → b < upto → a < m.nonterminals
      → cell_at s m.nonterminals ys b end a ≡ shares s (cell_at s m.nonterminals ys) weigh m last b end a m.bound
  pub zeros : (b a : ℕ) → b < from → b < upto → a < m.nonterminals → cell_at s m.nonterminals ys b end a ≡ s.zero

-- Of the spans with an end from k + 1 to `past` - 1, those that cover entry k have in each cell the sum over all rules and cuts, where es are the entries;
-- all slots of other spans stay.
pub record Refilled {S : Type 0} (s : Operations S) (weigh : Rule → S) (m : Meaning) (es : List ℕ) (k past : ℕ) (xs ys : List S) : Type 0 where
  pub kept : (q : ℕ) → ((f : ℕ) → k < f → f < past → (q < place m.nonterminals 0 f 0) ⊎ (place m.nonterminals (k + 1) f 0 ≤ q)) → slice_index_or ys q s.zero ≡ slice_index_or xs q s.zero
  pub cells : (b f a : ℕ) → b ≤ k → k < f → f < past → a < m.nonterminals
      → cell_at s m.nonterminals ys b f a ≡ shares s (cell_at s m.nonterminals ys) weigh m (slice_index es (f - 1)) b f a m.bound
