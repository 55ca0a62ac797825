-- The ways to read the entries of a job, in the words of its table alone. Assumes nothing.
use Rattle.std.specs.Prelude.{◌≡◌, ℕ, ◌-◌, ◌*◌, ◌≤◌, ◌⊎◌, List, length, Some, None, Option}
use Rattle.semiring.specs.Semirings.{Operations}
use Rattle.semiring.specs.YesNos.{yes_no}
use Rattle.semiring.specs.Counts.{count}
use Rattle.semiring.specs.Costs.{cost, costing}
use Rattle.grammar.specs.Derivations.{Tree, FromStarts, Fits}
use Rattle.grammar.specs.Totals.{TotalOf, weight_of, by}
use Rattle.grammar.specs.Costs.{by_cost, cost_of}
use Rattle.tree.specs.declared.record.Record.{Record}
use Rattle.tree.specs.Trees.{records}
use Rattle.table.specs.Drafts.{sealed}
use Rattle.automata.specs.Machines.{Accepted}
use Rattle.layers.specs.Ban.{Free}
use Rattle.layers.specs.Renaming.{Recorder}
use Rattle.layers.specs.Promises.{WhenRead}
use Rattle.answer.specs.Seen.{Report}
use Rattle.job.specs.Describing.{Described}

-- a word of the job's codes, and a tree of the table's rules
pub record Way : Type 0 where
  pub word : List ℕ
  pub tree : Tree

-- the tree derives the word v of the table's codes from the start, without a banned rule, and the automaton accepts v
abbrev pub Allows : Described → Tree → List ℕ → Type 0
Allows d t v = FromStarts (sealed d.table) v t × Free d.bans t × Accepted d.machine v

-- P holds of the word as it is read; without a renaming that is the word itself
abbrev pub AsRead : Option Recorder → List ℕ → (List ℕ → Type 0) → Type 0
AsRead None w P = P w
AsRead (Some c) w P = WhenRead c w P

-- a way to read the entries: its word has a code of each entry, and its tree is a derivation of the word as read that the job allows
pub record ReadsEntries (d : Described) (x : Way) : Type 0 where
  pub fits : Fits x.word d.entries
  pub derives : AsRead d.recorder x.word (Allows d x.tree)

-- v is the sum over all ways to read the entries; each weighs what its tree weighs by the rules of the table
abbrev pub OverWays : {S : Type 0} → Operations S → (ℕ → ℕ → S) → Described → S → Type 0
OverWays s weight d v = TotalOf s (ReadsEntries d) (λ x. weight_of s (by weight) (sealed d.table) x.tree) v

-- what the tree of a way costs by the rules of the table
abbrev pub cost_in : Described → Way → ℕ
cost_in d x = cost_of by_cost (sealed d.table) x.tree

-- the records are the nodes of a way to read the entries, by the rules of the table, and no way costs less
pub record CheapestWay (d : Described) (written : List Record) : Type 0 where
  pub way : Way
  pub reads : ReadsEntries d way
  pub are : written ≡ records (sealed d.table) way.tree 0
  pub least : (x : Way) → ReadsEntries d x → cost_in d way ≤ cost_in d x

-- there is no way to read the entries and there are no records, or the records are those of a cheapest way
abbrev pub DrawnWay : Described → List Record → Type 0
DrawnWay d written = (((x : Way) → ReadsEntries d x → ⊥) × (length written ≡ 0)) ⊎ (CheapestWay d written × (length written ≡ 2 * length d.entries - 1))

-- the totals of the report are those over all ways to read the entries, and its nodes those of a cheapest
pub record InWays (d : Described) (x : Report) : Type 0 where
  pub read : OverWays yes_no (λ cost bottom. yes_no.one) d x.totals.read
  pub counts : OverWays count (λ cost bottom. count.one) d x.totals.count
  pub costs : OverWays cost (λ cost bottom. costing cost) d x.totals.cost
  pub nodes : DrawnWay d x.nodes.items
