-- The rules of a grammar, gathered into a list. Assumes nothing.
use Rattle.std.specs.Prelude.{◌≡◌, ℕ, zero, suc, ◌<◌, ◌≤◌, List, [], ◌∷◌, ◌++◌, Some, None, Option}
use Rattle.grammar.specs.declared.rule.Rule.{Rule}
use Rattle.grammar.specs.Grammars.{Meaning}
use Rattle.chart.specs.Cells.{Names}

-- a rule names only nonterminals below n
abbrev pub Named : ℕ → Rule → Type 0
Named n r = (r.lhs < n) × Names n r.expansion

-- a list with the rule that there may be at its end
abbrev pub pushed : List Rule → Option Rule → List Rule
pushed rules None = rules
pushed rules (Some r) = rules ++ (r ∷ [])

-- the rules of the numbers below k, in order
unfoldable pub rules_below : Meaning → ℕ → List Rule
rules_below m zero = []
rules_below m (suc k) = pushed (rules_below m k) (m.rule k)

-- the rules of the numbers below `next` are at hand, and are the list rs
pub record Gathers (m : Meaning) (rs : List Rule) (next : ℕ) : Type 0 where
  pub below : next ≤ m.bound
  pub rules : rs ≡ rules_below m next
