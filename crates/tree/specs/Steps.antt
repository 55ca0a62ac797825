-- What the inner steps of the tree call do: reading a cell's rivals, choosing one, and writing records. Assumes nothing.
use Rattle.std.specs.Prelude.{◌≡◌, ℕ, ◌+◌, ◌-◌, ◌*◌, ◌<◌, ◌≤◌, Bool, true, false, List, ◌++◌, length, take, drop, Some, None, Option}
use Rattle.semiring.specs.declared.cost.Cost.{Cost}
use Rattle.semiring.specs.Costs.{cost, none}
use Rattle.grammar.specs.declared.rule.Expansion.{Expansion}
use Rattle.grammar.specs.declared.rule.Expansion.TheVariants.{Pair, Leaf}
use Rattle.grammar.specs.declared.rule.Rule.{Rule}
use Rattle.grammar.specs.Grammars.{Meaning}
use Rattle.grammar.specs.Derivations.{Tree, leaves}
use Rattle.grammar.specs.Totals.{by}
use Rattle.grammar.specs.Spans.{Filled}
use Rattle.entries.specs.Model.{state}
use Rattle.chart.specs.declared.chart.Chart.{Chart}
use Rattle.chart.specs.Cells.{cell_at}
use Rattle.tree.specs.declared.node.Node.{Node}
use Rattle.tree.specs.declared.node.Choice.{Choice}
use Rattle.tree.specs.declared.node.Attempt.{Attempt}
use Rattle.tree.specs.declared.record.Record.{Record}
use Rattle.tree.specs.Rivals.{Attains, Rival, First, ByRivals, ByFirst}
use Rattle.tree.specs.Trees.{records}

-- a node over the span (begin, end) from A
pub record IsNode (node : Node) (begin end A : ℕ) : Type 0 where
  pub begins : node.begin ≡ begin
  pub ends : node.end ≡ end
  pub from : node.nonterminal ≡ A

-- a pair rule rewrites into this
abbrev pub IsPair : Expansion → Type 0
IsPair (Pair B C) = Unit {0}
IsPair (Leaf c) = ⊥

-- the nodes of the two parts of the span (begin, end), cut at k, under a pair rule; under a leaf rule there are none
abbrev pub IsParts : Expansion → ℕ → ℕ → ℕ → Option (Node × Node) → Type 0
IsParts (Pair B C) begin k end (Some parts) = IsNode parts.0 begin k B × IsNode parts.1 k end C
IsParts (Pair B C) begin k end None = ⊥
IsParts (Leaf c) begin k end (Some parts) = ⊥
IsParts (Leaf c) begin k end None = Unit {0}

-- a rule with this expansion makes parts of the span (begin, end): a pair rule is cut at k inside it, and rewrites into two of n nonterminals; under a leaf rule the span is one entry
abbrev pub Cuts : ℕ → ℕ → ℕ → ℕ → Expansion → Type 0
Cuts n begin end k (Pair B C) = (begin < k) × (k < end) × (B < n) × (C < n)
Cuts n begin end k (Leaf c) = begin + 1 ≡ end

-- the entries of a chart
abbrev pub entries_of : {g : _} → Chart Cost g → List ℕ
entries_of chart = (state chart.entries).entries

-- the cost of each cell of a chart
abbrev pub cells_of : {g : _} → Chart Cost g → ℕ → ℕ → ℕ → Cost
cells_of chart = cell_at cost chart.entries.nonterminals chart.slots.cells.now

-- a node is in use in a chart: its span is among the entries, and its nonterminal is one of the chart's
pub record InUse {g : _} (chart : Chart Cost g) (node : Node) : Type 0 where
  pub within : node.end ≤ (length chart.entries.list.items)
  pub named : node.nonterminal < chart.entries.nonterminals

-- a test says whether P holds
abbrev pub Says : Bool → Type 0 → Type 0
Says true P = P
Says false P = P → ⊥

-- the first number with P, or none where there is none
abbrev pub FirstOf : (ℕ → Type 0) → Option ℕ → Type 0
FirstOf P None = (k : ℕ) → P k → ⊥
FirstOf P (Some k) = P k × ((j : ℕ) → P j → k ≤ j)

-- A is a start below n whose cost is v
pub record StartAttains (m : Meaning) (n : ℕ) (cell : ℕ → Cost) (v A : ℕ) : Type 0 where
  pub below : A < n
  pub start : m.start A ≡ true
  pub costs : (cell A).value ≡ v

-- the same of the cells of a chart that span its first `end` entries
abbrev pub ChartStart : {g : _} → Meaning → Chart Cost g → ℕ → Cost → ℕ → Type 0
ChartStart m chart end value = StartAttains m m.nonterminals (cells_of chart 0 end) value.value

-- a rule with this expansion, tried at a node of a chart and cut at k, attains the cost of the node's cell
abbrev pub ChartAttains : {g : _} → Chart Cost g → Attempt → Expansion → ℕ → Type 0
ChartAttains chart tried x = Attains (entries_of chart) (cells_of chart) tried.weight tried.value.value tried.node.begin tried.node.end x

-- the rivals at a node of a chart, which is shown the grammar m and the weights of a weighing
abbrev pub ChartRival : {g : _} → (ℕ → ℕ → Cost) → Meaning → Chart Cost g → Node → ℕ → ℕ → Type 0
ChartRival weight m chart node = Rival (by weight) m (entries_of chart) (cells_of chart) node.begin node.end node.nonterminal

-- a choice is the rival of rule number i with the smallest cut
pub record PickedOne (R : ℕ → ℕ → Type 0) (m : Meaning) (i : ℕ) (c : Choice) : Type 0 where
  pub there : m.rule i ≡ Some c.rule
  pub rival : R i c.cut
  pub smallest : (k : ℕ) → R i k → c.cut ≤ k

-- that rival, if rule number i has one
abbrev pub PickedAt : (ℕ → ℕ → Type 0) → Meaning → ℕ → Option Choice → Type 0
PickedAt R m i None = (k : ℕ) → R i k → ⊥
PickedAt R m i (Some c) = PickedOne R m i c

-- the rival that is taken: the first
pub record Picked (R : ℕ → ℕ → Type 0) (m : Meaning) (c : Choice) : Type 0 where
  pub number : ℕ
  pub there : m.rule number ≡ Some c.rule
  pub rival : R number c.cut
  pub first : First R number c.cut

-- that rival, if there is one
abbrev pub PickedOf : (ℕ → ℕ → Type 0) → Meaning → Option Choice → Type 0
PickedOf R m None = (i k : ℕ) → R i k → ⊥
PickedOf R m (Some c) = Picked R m c

-- what is chosen at a node: the first rival where there is one, and in any case parts to go on with
pub record Chose (R : ℕ → ℕ → Type 0) (m : Meaning) (begin end : ℕ) (c : Choice) : Type 0 where
  pub cuts : Cuts m.nonterminals begin end c.cut c.rule.expansion
  pub picked : (i k : ℕ) → R i k → Picked R m c

-- `old` with `part` written from `at` on
abbrev pub put : List Record → ℕ → List Record → List Record
put old at part = take at old ++ (part ++ drop (at + length part) old)

-- the records are those of a tree over the span (begin, end) from A, each node the first of its rivals
pub record Taken (weigh : Rule → Cost) (m : Meaning) (es : List ℕ) (cell : ℕ → ℕ → ℕ → Cost) (begin end A : ℕ) (part : List Record) : Type 0 where
  pub tree : Tree
  pub covers : begin + leaves tree ≡ end
  pub are : part ≡ records m tree begin
  pub rivals : ByRivals weigh m es cell begin end A tree
  pub lowest : ByFirst weigh m es cell begin end A tree

-- the records of a span were written from `at` on, as many as its tree has, and nothing else; where the cells are filled and there is a derivation, they are those of a tree
pub record Wrote (weigh : Rule → Cost) (m : Meaning) (es : List ℕ) (cell : ℕ → ℕ → ℕ → Cost) (old : List Record) (at begin end A : ℕ) (new : List Record) : Type 0 where
  pub part : List Record
  pub puts : new ≡ put old at part
  pub count : length part ≡ 2 * (end - begin) - 1
  pub taken : Filled cost weigh m es cell → (cell begin end A).value < none → Taken weigh m es cell begin end A part

-- the same at a node of a chart
abbrev pub ChartWrote : {g : _} → (ℕ → ℕ → Cost) → Meaning → Chart Cost g → List Record → ℕ → Node → List Record → Type 0
ChartWrote weight m chart old at node new = Wrote (by weight) m (entries_of chart) (cells_of chart) old at node.begin node.end node.nonterminal new
