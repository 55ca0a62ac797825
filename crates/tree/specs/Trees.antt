-- The records of a tree, what the tree call answers and writes, and the theorems on its contract. Assumes nothing.
use Rattle.std.specs.Prelude.{◌≡◌, ℕ, ◌+◌, ◌-◌, ◌*◌, ◌<◌, ◌≤◌, true, cond, List, [], ◌∷◌, ◌++◌, length, Some, None, Ok, Err, Option, Result, ◌==◌, nat_le}
use Rattle.semiring.specs.declared.cost.Cost.{Cost}
use Rattle.semiring.specs.Costs.{cost, costing, none}
use Rattle.grammar.specs.declared.refusal.Refusal.{Refusal}
use Rattle.grammar.specs.declared.refusal.Refusal.TheVariants.{NoDerivation, FewRecords}
use Rattle.grammar.specs.declared.rule.Rule.{Rule}
use Rattle.grammar.specs.Grammars.{Meaning}
use Rattle.grammar.specs.Derivations.{Tree, leaf, node, leaves, EntriesFromStarts}
use Rattle.grammar.specs.Totals.{by}
use Rattle.grammar.specs.Costs.{cost_of}
use Rattle.entries.specs.Lists.{Entries}
use Rattle.chart.specs.Cells.{cell_at}
use Rattle.entries.specs.Model.{state}
use Rattle.chart.specs.Stands.{ChartStands}
use Rattle.chart.specs.Reads.{whole_total, total_answer}
use Rattle.tree.specs.declared.record.Record.{Record}
use Rattle.tree.specs.Rivals.{ByRivals, ByFirst}

-- the bottom number of what stands at a rule number
abbrev pub bottom_of : Option Rule → ℕ
bottom_of (Some r) = r.bottom
bottom_of None = 0

-- the record of a node
abbrev pub record_of : ℕ → ℕ → ℕ → Record
record_of begin end bottom = record { begin = begin; end = end; bottom = bottom }

-- the records of a tree whose first entry is at `begin`, in preorder: the node, then the left part's, then the right part's
abbrev pub records : Meaning → Tree → ℕ → List Record
records m (leaf i) begin = record_of begin (begin + 1) (bottom_of (m.rule i)) ∷ []
records m (node i l r) begin = record_of begin (begin + (leaves l + leaves r)) (bottom_of (m.rule i)) ∷ (records m l begin ++ records m r (begin + leaves l))

-- the answer to a tree of `count` entries with this total and `room` records: the number of nodes, or why there is no tree
abbrev pub nodes_answer : Cost → ℕ → ℕ → Result ℕ Refusal
nodes_answer total count room = cond (total.value == none) (Err NoDerivation) (cond (nat_le (2 * count - 1) room) (Ok (2 * count - 1)) (Err FewRecords))

-- the same from the answer to the total, which tests the number of nonterminals first
abbrev pub tree_answer : Result Cost Refusal → ℕ → ℕ → Result ℕ Refusal
tree_answer (Ok total) count room = nodes_answer total count room
tree_answer (Err why) count room = Err why

-- A is a start of least cost, where `cell` has the cost of each nonterminal: no start is cheaper
pub record LeastStart (m : Meaning) (cell : ℕ → Cost) (A : ℕ) : Type 0 where
  pub start : m.start A ≡ true
  pub least : (B : ℕ) → m.start B ≡ true → (cell A).value ≤ (cell B).value

-- a derivation of the entries from a start costs no more than any other
abbrev pub LeastCost : (Rule → Cost) → Meaning → List ℕ → Tree → Type 0
LeastCost weigh m es tree = (t : Tree) → EntriesFromStarts m es t → cost_of weigh m tree ≤ cost_of weigh m t

-- the records are those of a derivation of the entries from a start, of least cost: it is made of rivals, from a start of least cost.
-- Of these, the start is the lowest-numbered, and each node is the first of its rivals
pub record Cheapest (weigh : Rule → Cost) (m : Meaning) (es : List ℕ) (cell : ℕ → ℕ → ℕ → Cost) (total : Cost) (written : List Record) : Type 0 where
  pub tree : Tree
  pub are : written ≡ records m tree 0
  pub derives : EntriesFromStarts m es tree
  pub least : LeastCost weigh m es tree
  pub costs : cost_of weigh m tree ≡ total.value
  pub start : LeastStart m (cell 0 (length es)) derives.from
  pub rivals : ByRivals weigh m es cell 0 (length es) derives.from tree
  pub lowest_start : (B : ℕ) → LeastStart m (cell 0 (length es)) B → derives.from ≤ B
  pub lowest : ByFirst weigh m es cell 0 (length es) derives.from tree

-- each derivation of least cost, below "none", is made of rivals, from a start of least cost: some choice among rivals makes it
abbrev pub EveryCheapest : (Rule → Cost) → Meaning → List ℕ → (ℕ → ℕ → ℕ → Cost) → Type 0
EveryCheapest weigh m es cell = (t : Tree) (d : EntriesFromStarts m es t) → cost_of weigh m t < none → LeastCost weigh m es t
    → LeastStart m (cell 0 (length es)) d.from × ByRivals weigh m es cell 0 (length es) d.from t

-- the one holds exactly where the other does
abbrev pub Exactly : Type 0 → Type 0 → Type 0
Exactly P Q = (P → Q) × (Q → P)

-- each rule weighs its cost
abbrev pub WeighsCost : (ℕ → ℕ → Cost) → Type 0
WeighsCost weight = (c bottom : ℕ) → weight c bottom ≡ costing c

-- there is no derivation of the entries from a start
abbrev pub Underivable : Meaning → List ℕ → Type 0
Underivable m es = (t : Tree) → EntriesFromStarts m es t → ⊥

-- Below, a chart has the entries e and the slots xs, and is shown the grammar m and the weights of a weighing.

-- the answer to the tree of a chart
abbrev pub chart_answer : Meaning → Entries → List Cost → ℕ → Result ℕ Refusal
chart_answer m e xs room = tree_answer (total_answer cost m e.nonterminals (length e.list.items) xs) (length e.list.items) room

-- the records are those of a cheapest derivation of the chart's entries, which costs the chart's total
abbrev pub ChartCheapest : (ℕ → ℕ → Cost) → Meaning → Entries → List Cost → List Record → Type 0
ChartCheapest weight m e xs written = Cheapest (by weight) m (state e).entries (cell_at cost m.nonterminals xs) (whole_total cost m (length e.list.items) xs) written

-- each cheapest derivation of the chart's entries is made of rivals
abbrev pub ChartEvery : (ℕ → ℕ → Cost) → Meaning → Entries → List Cost → Type 0
ChartEvery weight m e xs = EveryCheapest (by weight) m (state e).entries (cell_at cost m.nonterminals xs)

-- by the cost weighing, a chart that stands answers "no derivation" exactly where there is none
abbrev pub TellsNone : (ℕ → ℕ → Cost) → Meaning → Entries → List Cost → Result ℕ Refusal → Type 0
TellsNone weight m e xs r = m.nonterminals ≡ e.nonterminals → WeighsCost weight → ChartStands cost weight m e xs → Exactly (r ≡ Err NoDerivation) (Underivable m (state e).entries)
