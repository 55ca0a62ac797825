-- What entries come to by a grammar. Assumes nothing.
use Rattle.std.specs.Prelude.{◌≡◌, ℕ, ◌-◌, ◌*◌, ◌⊎◌, List, length}
use Rattle.semiring.specs.Semirings.{Operations}
use Rattle.semiring.specs.YesNos.{yes_no}
use Rattle.semiring.specs.Counts.{count}
use Rattle.semiring.specs.Costs.{cost}
use Rattle.grammar.specs.Grammars.{Meaning}
use Rattle.grammar.specs.Derivations.{EntriesFromStarts}
use Rattle.grammar.specs.Totals.{TotalOf, weight_of, by}
use Rattle.grammar.specs.Costs.{by_cost}
use Rattle.entries.specs.declared.call.Call.{Call}
use Rattle.entries.specs.Model.{terms, empty}
use Rattle.tree.specs.declared.record.Record.{Record}
use Rattle.tree.specs.Trees.{Underivable}
use Rattle.runs.specs.Runs.{run}
use Rattle.runs.specs.Trees.{CheapestRecords}
use Rattle.answer.specs.Seen.{Report}

-- the entries of a chart with so many slots after the calls: those that were accepted
abbrev pub accepted : Meaning → ℕ → List Call → List ℕ
accepted m slots calls = (run (terms m m.nonterminals slots) empty calls).entries

-- v is the sum over the derivations of the entries from the starts, where each weighs one
abbrev pub UnitTotal : {S : Type 0} → Operations S → Meaning → List ℕ → S → Type 0
UnitTotal s m es v = TotalOf s (EntriesFromStarts m es) (weight_of s (by (λ cost bottom. s.one)) m) v

-- there is no derivation of the entries and there are no records, or the records are those of a cheapest one
abbrev pub Drawn : Meaning → List ℕ → List Record → Type 0
Drawn m es written = (Underivable m es × (length written ≡ 0)) ⊎ (CheapestRecords m es written × (length written ≡ 2 * length es - 1))

-- what the entries come to by the grammar m: whether they have a derivation from a start, how many, the cost of a cheapest, and the nodes of one
pub record Comes (m : Meaning) (es : List ℕ) (x : Report) : Type 0 where
  pub read : UnitTotal yes_no m es x.totals.read
  pub counts : UnitTotal count m es x.totals.count
  pub costs : TotalOf cost (EntriesFromStarts m es) (weight_of cost by_cost m) x.totals.cost
  pub nodes : Drawn m es x.nodes.items
