-- Cells, one for each span of entries and nonterminal: what each rule adds to a cell, and what it is for cells to be filled, and to stand. Assumes nothing.
use Rattle.std.specs.Prelude.{◌≡◌, ℕ, zero, suc, ◌+◌, ◌-◌, ◌<◌, ◌≤◌, cond, ◌&&◌, List, length, Some, None, Option, ◌==◌, slice_index, slice_range}
use Rattle.semiring.specs.Semirings.{Operations, sum_below}
use Rattle.grammar.specs.declared.rule.Expansion.{Expansion}
use Rattle.grammar.specs.declared.rule.Expansion.TheVariants.{Pair, Leaf}
use Rattle.grammar.specs.declared.rule.Rule.{Rule}
use Rattle.grammar.specs.Grammars.{Meaning}
use Rattle.grammar.specs.Derivations.{has, DerivesEntries}
use Rattle.grammar.specs.Totals.{TotalOf, weight_of}

-- the entries of the span (begin, end): those from begin to end - 1
abbrev pub span : List ℕ → ℕ → ℕ → List ℕ
span es begin end = slice_range es begin end

module _ {S : Type 0} (s : Operations S) (cell : ℕ → ℕ → ℕ → S) where
  -- a pair rule to B and C of weight w, with its cut k + 1 entries after the begin: its weight times the left cell times the right cell
  abbrev pub cut_term : S → ℕ → ℕ → ℕ → ℕ → ℕ → S
  cut_term w begin end B C k = s.times w (s.times (cell begin (begin + 1 + k) B) (cell (begin + 1 + k) end C))

  -- what a rule of weight w adds to its cell of the span (begin, end), whose last entry is `last`:
  -- a pair rule the sum over all cuts, a leaf rule its weight where the span is one entry that has its code
  abbrev pub share : S → ℕ → ℕ → ℕ → Expansion → S
  share w last begin end (Pair B C) = sum_below s (end - (begin + 1)) (cut_term w begin end B C)
  share w last begin end (Leaf code) = cond (begin + 1 == end && has last code) w s.zero

  -- what stands at a rule number adds to the cell of A
  abbrev pub rule_share : (Rule → S) → ℕ → ℕ → ℕ → ℕ → Option Rule → S
  rule_share weigh last begin end A None = s.zero
  rule_share weigh last begin end A (Some r) = cond (r.lhs == A) (share (weigh r) last begin end r.expansion) s.zero

  -- the sum of what the rule numbers below k add: with k the grammar's bound, the sum over all rules and cuts
  abbrev pub shares : (Rule → S) → Meaning → ℕ → ℕ → ℕ → ℕ → ℕ → S
  shares weigh m last begin end A k = sum_below s k (λ i. rule_share weigh last begin end A (m.rule i))

-- each cell of a span in use, `cell begin end A`, is the sum over rules and cuts of the cells of narrower spans
abbrev pub Filled : {S : Type 0} → Operations S → (Rule → S) → Meaning → List ℕ → (ℕ → ℕ → ℕ → S) → Type 0
Filled s weigh m es cell = (begin end A : ℕ) → begin < end → end ≤ length es → A < m.nonterminals
    → cell begin end A ≡ shares s cell weigh m (slice_index es (end - 1)) begin end A m.bound

-- each cell of a span in use is the total of the derivations of its entries from its nonterminal
abbrev pub Stands : {S : Type 0} → Operations S → (Rule → S) → Meaning → List ℕ → (ℕ → ℕ → ℕ → S) → Type 0
Stands s weigh m es cell = (begin end A : ℕ) → begin < end → end ≤ length es → A < m.nonterminals
    → TotalOf s (DerivesEntries m A (span es begin end)) (weight_of s weigh m) (cell begin end A)

-- the sum over the starts
abbrev pub start_sum : {S : Type 0} → Operations S → Meaning → (ℕ → S) → S
start_sum s m cell = sum_below s m.nonterminals (λ A. cond (m.start A) (cell A) s.zero)

-- the sum over rules and cuts worked out all the way down; `depth` is at least the width of the span
abbrev pub inside : {S : Type 0} → Operations S → (Rule → S) → Meaning → List ℕ → ℕ → ℕ → ℕ → ℕ → S
inside s weigh m es zero begin end A = s.zero
inside s weigh m es (suc depth) begin end A = shares s (inside s weigh m es depth) weigh m (slice_index es (end - 1)) begin end A m.bound
