-- When a chart stands. Assumes nothing.
use Rattle.std.specs.Prelude.{ℕ, List}
use Rattle.semiring.specs.Semirings.{Operations}
use Rattle.grammar.specs.Grammars.{Meaning}
use Rattle.grammar.specs.Totals.{by}
use Rattle.grammar.specs.Spans.{Stands}
use Rattle.entries.specs.Lists.{Entries}
use Rattle.entries.specs.Model.{state}
use Rattle.chart.specs.Cells.{cell_at}

-- a chart with the entries e and the slots xs stands for a grammar and the weights of a weighing: each cell in use is the total of its derivations
abbrev pub ChartStands : {S : Type 0} → Operations S → (ℕ → ℕ → S) → Meaning → Entries → List S → Type 0
ChartStands s weight m e xs = Stands s (by weight) m (state e).entries (cell_at s m.nonterminals xs)
