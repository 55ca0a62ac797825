-- What it is for the derivations of a layer to match those of the grammar below. Assumes nothing.
use Rattle.std.specs.Prelude.{◌≡◌, ℕ, ◌/◌, Some}
use Rattle.semiring.specs.Semirings.{Operations}
use Rattle.grammar.specs.declared.rule.Rule.{Rule}
use Rattle.grammar.specs.Grammars.{Meaning}
use Rattle.grammar.specs.Derivations.{Tree, leaf, node}
use Rattle.grammar.specs.Totals.{TotalOf, weight_of, by}

-- the trees with Above match those with Below one for one: `down` takes each above to one below, no two to the same, and reaches every one below
pub record OneForOne (Above Below : Tree → Type 0) (down : Tree → Tree) : Type 0 where
  pub into : (t : Tree) → Above t → Below (down t)
  pub apart : (s t : Tree) → Above s → Above t → down s ≡ down t → s ≡ t
  pub onto : (t : Tree) → Below t → (s : Tree) × Above s × (down s ≡ t)

-- each tree above weighs what its match below weighs, by every weighing into S; so both have the same total
pub record SameWeight {S : Type 0} (s : Operations S) (above below : Meaning) (Above Below : Tree → Type 0) (down : Tree → Tree) : Type 0 where
  pub each : (weight : ℕ → ℕ → S) (t : Tree) → Above t → weight_of s (by weight) above t ≡ weight_of s (by weight) below (down t)
  pub total : (weight : ℕ → ℕ → S) (v : S) → TotalOf s Above (weight_of s (by weight) above) v → TotalOf s Below (weight_of s (by weight) below) v

-- a match: one of the two above
abbrev pub Match : Type 1
Match = (Tree → Type 0) → (Tree → Type 0) → (Tree → Tree) → Type 0

-- the rule r stems from the one at number i: there is one, with the same cost and bottom number
pub record Stems (below : Meaning) (i : ℕ) (r : Rule) : Type 0 where
  pub rule : Rule
  pub there : below.rule i ≡ Some rule
  pub cost : r.cost ≡ rule.cost
  pub bottom : r.bottom ≡ rule.bottom

-- cost and bottom number pass through: the rule above at n stems from the one below at `origin n`
abbrev pub PassesThrough : (above below : Meaning) → (ℕ → ℕ) → Type 0
PassesThrough above below origin = (n : ℕ) (r : Rule) → above.rule n ≡ Some r → Stems below (origin n) r

-- a tree with each number replaced
abbrev pub renumbered : (ℕ → ℕ) → Tree → Tree
renumbered f (leaf i) = leaf (f i)
renumbered f (node i l r) = node (f i) (renumbered f l) (renumbered f r)

-- a tree with each number divided
abbrev pub divided : ℕ → Tree → Tree
divided d = renumbered (λ n. n / d)
