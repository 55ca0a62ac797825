-- The theorems of sums. Assumes nothing.
use Rattle.std.specs.Prelude.{◌≡◌, ℕ, ◌-◌, ◌<◌, ◌≤◌, List, length, slice_index}
use Rattle.semiring.specs.Semirings.{Operations}
use Rattle.semiring.specs.declared.cost.Cost.{Cost}
use Rattle.semiring.specs.Costs.{cost}
use Rattle.grammar.specs.declared.rule.Rule.{Rule}
use Rattle.grammar.specs.Grammars.{Meaning, Shown}
use Rattle.grammar.specs.Derivations.{Tree, DerivesEntries, EntriesFromStarts}
use Rattle.grammar.specs.Totals.{TotalOf, weight_of}
use Rattle.grammar.specs.Spans.{span, shares, Filled, Stands, start_sum, inside}
use Rattle.grammar.specs.Costs.{by_cost, cost_of, Least}

-- if each cell of a narrower span within (begin, end) is its total, the sum over rules and cuts is the total for (begin, end)
abbrev pub SpanIsTotal : {S : Type 0} → Operations S → Type 0
SpanIsTotal {S} s = (weigh : Rule → S) (m : Meaning) → Shown m → (es : List ℕ) (cell : ℕ → ℕ → ℕ → S) (begin end A : ℕ) → begin < end → end ≤ length es
    → ((b e B : ℕ) → b < e → begin ≤ b → e ≤ end → e - b < end - begin → B < m.nonterminals → TotalOf s (DerivesEntries m B (span es b e)) (weight_of s weigh m) (cell b e B))
    → TotalOf s (DerivesEntries m A (span es begin end)) (weight_of s weigh m) (shares s cell weigh m (slice_index es (end - 1)) begin end A m.bound)

-- cells stand exactly where they are filled
pub record FilledStands {S : Type 0} (s : Operations S) : Type 0 where
  pub stands : (weigh : Rule → S) (m : Meaning) → Shown m → (es : List ℕ) (cell : ℕ → ℕ → ℕ → S) → Filled s weigh m es cell → Stands s weigh m es cell
  pub filled : (weigh : Rule → S) (m : Meaning) → Shown m → (es : List ℕ) (cell : ℕ → ℕ → ℕ → S) → Stands s weigh m es cell → Filled s weigh m es cell

-- the sum over rules and cuts, worked out all the way down, is the total of all derivations from A
abbrev pub InsideIsTotal : {S : Type 0} → Operations S → Type 0
InsideIsTotal {S} s = (weigh : Rule → S) (m : Meaning) → Shown m → (es : List ℕ) (A : ℕ)
    → TotalOf s (DerivesEntries m A es) (weight_of s weigh m) (inside s weigh m es (length es) 0 (length es) A)

-- the sum over the starts is the total of the derivations from all starts
abbrev pub StartsAreTotal : {S : Type 0} → Operations S → Type 0
StartsAreTotal {S} s = (weigh : Rule → S) (m : Meaning) → Shown m → (es : List ℕ) (cell : ℕ → S)
    → ((A : ℕ) → A < m.nonterminals → TotalOf s (DerivesEntries m A es) (weight_of s weigh m) (cell A))
    → TotalOf s (EntriesFromStarts m es) (weight_of s weigh m) (start_sum s m cell)

-- no two values are the total of the same derivations, from one nonterminal or from all starts
pub record TotalIsUnique {S : Type 0} (s : Operations S) : Type 0 where
  pub from_each : (weigh : Rule → S) (m : Meaning) (es : List ℕ) (A : ℕ) (u v : S)
      → TotalOf s (DerivesEntries m A es) (weight_of s weigh m) u → TotalOf s (DerivesEntries m A es) (weight_of s weigh m) v → u ≡ v
  pub from_starts : (weigh : Rule → S) (m : Meaning) (es : List ℕ) (u v : S)
      → TotalOf s (EntriesFromStarts m es) (weight_of s weigh m) u → TotalOf s (EntriesFromStarts m es) (weight_of s weigh m) v → u ≡ v

-- all of these
pub record SumsAreTotals {S : Type 0} (s : Operations S) : Type 0 where
  pub spans : SpanIsTotal s
  pub filled : FilledStands s
  pub whole : InsideIsTotal s
  pub starts : StartsAreTotal s
  pub unique : TotalIsUnique s

-- a total of costs is the least cost, from one nonterminal or from all starts
pub record TotalIsLeast : Type 0 where
  pub from_each : (weigh : Rule → Cost) (m : Meaning) (es : List ℕ) (A : ℕ) (v : Cost)
      → TotalOf cost (DerivesEntries m A es) (weight_of cost weigh m) v → Least weigh m (DerivesEntries m A es) v.value
  pub from_starts : (weigh : Rule → Cost) (m : Meaning) (es : List ℕ) (v : Cost)
      → TotalOf cost (EntriesFromStarts m es) (weight_of cost weigh m) v → Least weigh m (EntriesFromStarts m es) v.value

-- by the cost weighing, no derivation of n entries costs more than `most`
abbrev pub CostsAtMost : ℕ → ℕ → Type 0
CostsAtMost n most = (m : Meaning) → Shown m → (A : ℕ) (es : List ℕ) (t : Tree) → length es ≡ n → DerivesEntries m A es t → cost_of by_cost m t ≤ most
