-- What a derivation weighs, and what it is to add up the weights of all things of a kind, each once. Assumes nothing.
use Rattle.std.specs.Prelude.{◌≡◌, ℕ, ◌⊎◌, List, [], ◌∷◌, map, Some, None, Option}
use Rattle.semiring.specs.Semirings.{Operations, sum}
use Rattle.grammar.specs.declared.rule.Rule.{Rule}
use Rattle.grammar.specs.Grammars.{Meaning}
use Rattle.grammar.specs.Derivations.{Tree, leaf, node}

-- x stands in the list
abbrev pub Member : {X : Type 0} → X → List X → Type 0
Member x [] = ⊥
Member x (y ∷ ys) = (x ≡ y) ⊎ Member x ys

-- nothing stands in the list twice
abbrev pub NoRepeats : {X : Type 0} → List X → Type 0
NoRepeats [] = Unit {0}
NoRepeats (x ∷ xs) = (¬ Member x xs) × NoRepeats xs

-- v is the sum of the weights of all x with P x: there is a list with every such x, only those, each once, and v is the sum of its weights
pub record TotalOf {X S : Type 0} (s : Operations S) (P : X → Type 0) (weight : X → S) (v : S) : Type 0 where
  pub all : List X
  pub each : (x : X) → P x → Member x all
  pub only : (x : X) → Member x all → P x
  pub once : NoRepeats all
  pub adds_up : v ≡ sum s (map weight all)

-- the weight of a rule, where a weighing gives it by cost and bottom number
abbrev pub by : {S : Type 0} → (ℕ → ℕ → S) → Rule → S
by weight r = weight r.cost r.bottom

-- the weight of what stands at a rule number
abbrev pub weighed : {S : Type 0} → Operations S → (Rule → S) → Option Rule → S
weighed s weigh (Some r) = weigh r
weighed s weigh None = s.zero

-- what a tree weighs: a leaf its rule's weight, a node its rule's weight times the left's times the right's
abbrev pub weight_of : {S : Type 0} → Operations S → (Rule → S) → Meaning → Tree → S
weight_of s weigh m (leaf i) = weighed s weigh (m.rule i)
weight_of s weigh m (node i l r) = s.times (weighed s weigh (m.rule i)) (s.times (weight_of s weigh m l) (weight_of s weigh m r))
