-- What a contract sees of a list. Assumes nothing.
use Rattle.std.specs.Prelude.{List as Values}

-- the values, in order, and what the unused places hold, of which no clause says anything
pub record List (T : Type 0) : Type 0 where
  pub items : Values T
  pub spare : Values T
