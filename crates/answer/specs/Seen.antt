-- What a clause sees of a report. Assumes nothing.
use Rattle.std.specs.Prelude.{◌≤◌, length}
use Rattle.lists.specs.Lists.{List}
use Rattle.tree.specs.declared.record.Record.{Record}
use Rattle.answer.specs.declared.report.Totals.{Totals}

-- the totals, and the nodes of a cheapest derivation
pub record Report : Type 0 where
  pub totals : Totals
  pub nodes : List Record
  pub few : length nodes.items ≤ 127
