-- What trees cost, and what the least cost is. Assumes nothing.
use Rattle.std.specs.Prelude.{◌≡◌, ℕ, ◌≤◌, ◌⊎◌}
use Rattle.semiring.specs.declared.cost.Cost.{Cost}
use Rattle.semiring.specs.Costs.{cost, costing, none}
use Rattle.grammar.specs.declared.rule.Rule.{Rule}
use Rattle.grammar.specs.Grammars.{Meaning}
use Rattle.grammar.specs.Derivations.{Tree}
use Rattle.grammar.specs.Totals.{weight_of, by}

-- the cost weighing: each rule weighs its cost
abbrev pub by_cost : Rule → Cost
by_cost = by (λ cost bottom. costing cost)

-- what a tree costs
abbrev pub cost_of : (Rule → Cost) → Meaning → Tree → ℕ
cost_of weigh m t = (weight_of cost weigh m t).value

-- v is the least cost of a tree with P, or "none" where there is none
pub record Least (weigh : Rule → Cost) (m : Meaning) (P : Tree → Type 0) (v : ℕ) : Type 0 where
  pub below : (t : Tree) → P t → v ≤ cost_of weigh m t
  pub attained : (v ≡ none) ⊎ ((t : Tree) × P t × (v ≡ cost_of weigh m t))
