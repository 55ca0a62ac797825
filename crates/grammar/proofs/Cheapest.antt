-- Totals in the cost semiring are least costs, and derivations stay below none. Assumes nothing.
use Rattle.std.proofs.Common.{◌≡◌, ℕ, ◌+◌, ◌-◌, ◌*◌, ◌<◌, ◌≤◌, min, ◌⊎◌, List, [], ◌∷◌, map, length, Some, sym, refl, ap, ◌∙◌, subst, inl, inr, ⊎_elim, arith}
use native.Mathlib.Nat.{min-eq_left}
use native.Mathlib.Decide.{dec_le}
use Rattle.grammar.specs.declared.rule.Rule.{Rule}
use Rattle.semiring.specs.declared.cost.Cost.{Cost}
use Rattle.semiring.specs.Semirings.{sum}
use Rattle.semiring.specs.Costs.{cost, none}
use Rattle.grammar.specs.Grammars.{Meaning, Shown}
use Rattle.grammar.specs.Derivations.{Tree, leaf, node, leaf_rule, pair_rule, Derives, DerivesEntries, leaves}
use Rattle.grammar.specs.Totals.{Member, TotalOf, weighed, weight_of}
use Rattle.grammar.specs.Costs.{by_cost, cost_of, Least}
use Rattle.grammar.proofs.Shapes.{entries_length}

module _ {X : Type 0} (w : X → Cost) where
  sum_below_le : (xs : List X) (x : X) → Member x xs → (sum cost (map w xs)).value ≤ (w x).value
  sum_below_le [] x m = absurd m
  sum_below_le (y ∷ xs) x (inl e) = let k = ap (λ a. (w a).value) e in omega arith
  sum_below_le (y ∷ xs) x (inr m) = omega (arith, sum_below_le xs x m)

  sum_attained : (xs : List X) → ((sum cost (map w xs)).value ≡ none) ⊎ ((x : X) × Member x xs × ((sum cost (map w xs)).value ≡ (w x).value))
  sum_attained [] = inl refl
  sum_attained (y ∷ xs) = go (dec_le (w y).value (sum cost (map w xs)).value) (sum_attained xs)
    where
      go : Dec ((w y).value ≤ (sum cost (map w xs)).value) → ((sum cost (map w xs)).value ≡ none) ⊎ ((x : X) × Member x xs × ((sum cost (map w xs)).value ≡ (w x).value))
          → (min (w y).value (sum cost (map w xs)).value ≡ none) ⊎ ((x : X) × Member x (y ∷ xs) × (min (w y).value (sum cost (map w xs)).value ≡ (w x).value))
      go (yes h) d = inr (y, inl refl, min-eq_left h)
      go (no h) (inl e) = inl (omega arith)
      go (no h) (inr e) = inr (e.0, inr e.1, (let k = e.2 in omega arith))

pub total_least : (weigh : Rule → Cost) (m : Meaning) (P : Tree → Type 0) (v : Cost) → TotalOf cost P (weight_of cost weigh m) v → Least weigh m P v.value
total_least weigh m P v t = record {
  below = λ x p. subst (λ n. n ≤ cost_of weigh m x) (sym (ap (λ (c : Cost). c.value) t.adds_up)) (sum_below_le (weight_of cost weigh m) t.all x (t.each x p));
  attained = ⊎_elim (λ e. inl (ap (λ (c : Cost). c.value) t.adds_up ∙ e)) (λ h. inr (h.0, t.only h.0 h.1, ap (λ (c : Cost). c.value) t.adds_up ∙ h.2)) (sum_attained (weight_of cost weigh m) t.all);
}

-- a derivation of n entries costs at most 65535 for each of its 2n - 1 nodes
rule_bound : (m : Meaning) → Shown m → (i : ℕ) (r : Rule) → m.rule i ≡ Some r → (weighed cost by_cost (m.rule i)).value ≤ 65535
rule_bound m shown i r there =
    let k = (shown.rules i r there).cheap in
    let e = ap (λ o. (weighed cost by_cost o).value) there in
    omega arith

tree_bound : (m : Meaning) → Shown m → (A : ℕ) (w : List ℕ) (t : Tree) → Derives m A w t → cost_of by_cost m t + 65535 ≤ leaves t * 131070
tree_bound m shown A w (leaf i) d = omega (arith, rule_bound m shown i (leaf_rule A d.code d.cost d.bottom) d.rule)
tree_bound m shown A w (node i l r) d =
    let a = rule_bound m shown i (pair_rule A d.left d.right d.cost d.bottom) d.rule in
    let b = tree_bound m shown d.left d.first l d.on_left in
    let c = tree_bound m shown d.right d.rest r d.on_right in
    omega arith

pub entries_bound : (m : Meaning) → Shown m → (A : ℕ) (es : List ℕ) (t : Tree) → DerivesEntries m A es t → cost_of by_cost m t ≤ (2 * length es - 1) * 65535
entries_bound m shown A es t d =
    let a = tree_bound m shown A d.word t d.derives in
    let b = entries_length m A es t d in
    omega arith

pub below_none : (m : Meaning) → Shown m → (A : ℕ) (es : List ℕ) (t : Tree) → DerivesEntries m A es t → length es ≤ 64 → cost_of by_cost m t < none
below_none m shown A es t d short = omega (arith, entries_bound m shown A es t d)
