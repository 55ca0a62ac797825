-- Sums over cuts that are known. Assumes nothing.
use Rattle.std.specs.Prelude.{◌≡◌, ℕ, ◌<◌, ◌≤◌, ◌==◌, List, length, filter, slice_index_or}
use Rattle.semiring.specs.Semirings.{Operations}
use Rattle.chart.specs.Cells.{cell_at, cut_sum, Room}
use Rattle.chart.specs.declared.span.Span.{Span}
use Rattle.chart.specs.declared.sums.Key.{Key}
use Rattle.chart.specs.declared.sums.Sum.{Sum}

-- no sum is of a span that begins before b
abbrev pub Later : {S : Type 0} → ℕ → List (Sum S) → Type 0
Later {S} b sums = (i : ℕ) (d : Sum S) → i < length sums → b ≤ (slice_index_or sums i d).begin

-- v is the sum of a key at a span, where xs are the slots; of a key that names no two nonterminals it is any value
abbrev pub KnownAt : {S : Type 0} → Operations S → Span → List S → Key → S → Type 0
KnownAt s span xs key v = key.left < span.cells → key.right < span.cells → v ≡ cut_sum s (cell_at s span.cells xs) span.begin span.end key.left key.right

-- there are slots for the span, and each sum is that of its key
pub record Known {S : Type 0} (s : Operations S) (span : Span) (xs : List S) (sums : List (Sum S)) : Type 0 where
  pub room : Room span.cells span.end (length xs)
  pub each : (i : ℕ) (d : Sum S) → i < length sums → KnownAt s span xs (slice_index_or sums i d).key (slice_index_or sums i d).value

-- those of the sums that are of a span that begins at b
abbrev pub sums_at : {S : Type 0} → ℕ → List (Sum S) → List (Sum S)
sums_at b sums = filter (λ sum. sum.begin == b) sums

-- no sum is of a span that begins before this one, and those of this one are known
pub record Noted {S : Type 0} (s : Operations S) (span : Span) (xs : List S) (sums : List (Sum S)) : Type 0 where
  pub later : Later span.begin sums
  pub here : Known s span xs (sums_at span.begin sums)
