-- What the chart answers. Assumes nothing.
use Rattle.std.specs.Prelude.{ℕ, cond, ◌&&◌, List, Some, None, Ok, Err, Option, Result, ◌==◌, nat_le, nat_lt}
use Rattle.grammar.specs.declared.refusal.Refusal.{Refusal}
use Rattle.grammar.specs.declared.refusal.Refusal.TheVariants.{OtherGrammar}
use Rattle.grammar.specs.Grammars.{Meaning}
use Rattle.grammar.specs.Spans.{start_sum}
use Rattle.semiring.specs.Semirings.{Operations}
use Rattle.chart.specs.Cells.{cell_at}

-- the cell of a span in use, with `count` entries and n nonterminals
abbrev pub cell_answer : {S : Type 0} → Operations S → ℕ → ℕ → List S → ℕ → ℕ → ℕ → Option S
cell_answer s n count xs begin end a = cond (nat_lt begin end && nat_le end count && nat_lt a n) (Some (cell_at s n xs begin end a)) None

-- the sum of the cells of the whole span over the starts; without entries it is zero
abbrev pub whole_total : {S : Type 0} → Operations S → Meaning → ℕ → List S → S
whole_total s m count xs = cond (count == 0) s.zero (start_sum s m (cell_at s m.nonterminals xs 0 count))

-- the total, unless the grammar shown has another number of nonterminals than the chart
abbrev pub total_answer : {S : Type 0} → Operations S → Meaning → ℕ → ℕ → List S → Result S Refusal
total_answer s m n count xs = cond (m.nonterminals == n) (Ok (whole_total s m count xs)) (Err OtherGrammar)
