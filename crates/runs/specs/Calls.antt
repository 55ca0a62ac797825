-- What one call does to a chart, and to a run of calls on it. Assumes nothing.
use Rattle.std.specs.Prelude.{◌≡◌, ℕ, List, length, Result}
use Rattle.semiring.specs.Semirings.{Operations}
use Rattle.grammar.specs.declared.refusal.Refusal.{Refusal}
use Rattle.grammar.specs.Grammars.{Meaning}
use Rattle.entries.specs.declared.call.Call.{Call}
use Rattle.entries.specs.Model.{Terms, terms, state, empty, Did}
use Rattle.chart.specs.declared.chart.Chart.{Chart}
use Rattle.chart.specs.Stands.{ChartStands}
use Rattle.runs.specs.declared.run.Run.{Run}
use Rattle.runs.specs.Runs.{RanAll}

-- a chart is over the same slots as another, as many, for as many nonterminals
pub record SameSlots {S : Type 0} {g : _} (before after : Chart S g) : Type 0 where
  pub own : after.entries.nonterminals ≡ before.entries.nonterminals
  pub long : length after.slots.cells.now ≡ length before.slots.cells.now
  pub named : after.slots.cells.ghost_name ≡ before.slots.cells.ghost_name

-- a call took a chart to another, with the answer r: it did what it does to the entries, a chart that stands still stands, and the slots are the same
pub record Performed {S : Type 0} {g : _} (s : Operations S) (weight : ℕ → ℕ → S) (m : Meaning) (call : Call) (r : Result (Unit {0}) Refusal) (before after : Chart S g) : Type 0 where
  pub did : Did (terms m before.entries.nonterminals (length before.slots.cells.now)) before.entries call r after.entries
  pub stands : ChartStands s weight m before.entries before.slots.cells.now → ChartStands s weight m after.entries after.slots.cells.now
  pub slots : SameSlots before after

-- a call that writes no slot took a chart to another, with the answer r: what it did to the entries looks at no grammar, and a chart that stands still stands
pub record Moved {S : Type 0} {g : _} (s : Operations S) (call : Call) (r : Result (Unit {0}) Refusal) (before after : Chart S g) : Type 0 where
  pub did : (t : Terms) → Did t before.entries call r after.entries
  pub stands : (weight : ℕ → ℕ → S) (m : Meaning) → ChartStands s weight m before.entries before.slots.cells.now → ChartStands s weight m after.entries after.slots.cells.now
  pub same : after.slots.cells.now ≡ before.slots.cells.now
  pub named : after.slots.cells.ghost_name ≡ before.slots.cells.ghost_name

-- a run is shown the same grammar and weighing as before
pub record SameShown {S G W : Type 0} {g : _} (before after : Run S G W g) : Type 0 where
  pub grammar : after.grammar ≡ before.grammar
  pub weighing : after.weighing ≡ before.weighing

-- a chart was cleared, and all calls of a list were made on it: it stands, whatever stood in its slots, which are the same
pub record RanAnew {S : Type 0} {g : _} (s : Operations S) (weight : ℕ → ℕ → S) (m : Meaning) (calls : List Call) (before after : Chart S g) (old new : List (Result (Unit {0}) Refusal)) : Type 0 where
  pub ran : RanAll (terms m before.entries.nonterminals (length before.slots.cells.now)) empty calls (state after.entries) old new
  pub stands : ChartStands s weight m after.entries after.slots.cells.now
  pub slots : SameSlots before after
