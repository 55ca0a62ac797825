-- What a clause sees of a list of bans. Assumes nothing.
use Rattle.std.specs.Prelude.{ℕ, ◌≤◌, length}
use Rattle.lists.specs.Lists.{List}

-- the banned numbers
pub record Bans : Type 0 where
  pub numbers : List ℕ
  pub few : length numbers.items ≤ 16
