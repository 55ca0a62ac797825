-- Which slot holds which cell. Assumes nothing.
use Rattle.std.specs.Prelude.{ℕ, ◌+◌, ◌-◌, ◌*◌, ◌<◌, ◌≤◌, List, slice_index_or, slice_set}
use Rattle.grammar.specs.declared.rule.Expansion.{Expansion}
use Rattle.grammar.specs.declared.rule.Expansion.TheVariants.{Pair, Leaf}
use Rattle.entries.specs.Spans.{triangle}
use Rattle.semiring.specs.Semirings.{Operations, sum_below}

-- the slot of the cell of nonterminal a and the span (begin, end), where there are n nonterminals
unfoldable pub place : ℕ → ℕ → ℕ → ℕ → ℕ
place n begin end a = (triangle end + begin) * n + a

-- what the cell holds, where xs are the slots
abbrev pub cell_at : {S : Type 0} → Operations S → ℕ → List S → ℕ → ℕ → ℕ → S
cell_at s n xs begin end a = slice_index_or xs (place n begin end a) s.zero

-- the slots with a value added to one cell
abbrev pub added : {S : Type 0} → Operations S → ℕ → List S → ℕ → ℕ → ℕ → S → List S
added s n xs begin end a v = slice_set xs (place n begin end a) (s.plus (cell_at s n xs begin end a) v)

-- the left cell of B times the right cell of C, with the cut k + 1 entries after the begin
abbrev pub cut_product : {S : Type 0} → Operations S → (ℕ → ℕ → ℕ → S) → ℕ → ℕ → ℕ → ℕ → ℕ → S
cut_product s cell begin end B C k = s.times (cell begin (begin + 1 + k) B) (cell (begin + 1 + k) end C)

-- the sum of that over the cuts of the span (begin, end): what a pair rule to B and C adds is its weight times this
abbrev pub cut_sum : {S : Type 0} → Operations S → (ℕ → ℕ → ℕ → S) → ℕ → ℕ → ℕ → ℕ → S
cut_sum s cell begin end B C = sum_below s (end - (begin + 1)) (cut_product s cell begin end B C)

-- there are slots for all spans that end at or before `end`
pub record Room (n end slots : ℕ) : Type 0 where
  pub few : end ≤ 64
  pub narrow : n ≤ 4096
  pub fits : triangle (end + 1) * n ≤ slots

-- an expansion names only nonterminals below n
abbrev pub Names : ℕ → Expansion → Type 0
Names n (Pair left right) = (left < n) × (right < n)
Names n (Leaf code) = Unit {0}
