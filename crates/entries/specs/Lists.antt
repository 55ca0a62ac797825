-- What a clause sees of a list of entries. Assumes nothing.
use Rattle.std.specs.Prelude.{ℕ, ◌≤◌, length, Bool}
use Rattle.lists.specs.Lists.{List}
use Rattle.entries.specs.declared.entry.Entry.{Entry}

-- the entries, the mark of an open trial, and the number of nonterminals that the list is kept for
pub record Entries : Type 0 where
  pub list : List Entry
  pub trial : Bool
  pub nonterminals : ℕ
  pub few : length list.items ≤ 64
