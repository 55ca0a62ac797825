-- A tree of rivals is a derivation that costs what its cell holds. Assumes nothing.
use Rattle.std.proofs.Common.{◌≡◌, ℕ, ◌+◌, ◌-◌, ◌<◌, ◌≤◌, true, cond, List, [], ◌∷◌, length, get_or, take, drop, Some, sym, refl, ap, ◌∙◌, subst, ap₂, arith}
use Rattle.semiring.specs.declared.cost.Cost.{Cost}
use Rattle.semiring.specs.Costs.{cost}
use Rattle.semiring.specs.CostLaws.{same}
use Rattle.grammar.specs.declared.rule.Expansion.{Expansion}
use Rattle.grammar.specs.declared.rule.Expansion.TheVariants.{Pair, Leaf}
use Rattle.grammar.specs.declared.rule.Rule.{Rule}
use Rattle.grammar.specs.Grammars.{Meaning, Shown}
use Rattle.grammar.specs.Derivations.{Tree, leaf, node, pair_rule, Fits, DerivesEntries, EntriesFromStarts}
use Rattle.grammar.specs.Totals.{weighed, weight_of, TotalOf}
use Rattle.grammar.specs.Spans.{span, start_sum}
use Rattle.grammar.specs.Costs.{cost_of}
use Rattle.grammar.proofs.Shapes.{leaf_made, node_made}
use Rattle.grammar.proofs.Spanning.{span_one, span_front, span_back, span_all}
use Rattle.grammar.proofs.Cheapest.{total_least}
use Rattle.tree.specs.declared.record.Record.{Record}
use Rattle.tree.specs.Rivals.{Attains, PairAttains, Rival, AtNode, ByRivals}
use Rattle.tree.specs.Trees.{Cheapest}
use Rattle.tree.specs.Steps.{StartAttains, Taken}
use Rattle.tree.proofs.Choosing.{sum_below_le}

module _ (weigh : Rule → Cost) (m : Meaning) (es : List ℕ) (cell : ℕ → ℕ → ℕ → Cost) where
  -- a derivation of the span, and its cost
  abbrev Costs : ℕ → ℕ → ℕ → Tree → Type 0
  Costs b e A t = DerivesEntries m A (span es b e) t × (weight_of cost weigh m t ≡ cell b e A)

  weighs : (i : ℕ) (r : Rule) → m.rule i ≡ Some r → weighed cost weigh (m.rule i) ≡ weigh r
  weighs i r there = ap (weighed cost weigh) there

  leaf_costs : (b e A i : ℕ) → e ≤ length es → (r : Rule) → m.rule i ≡ Some r → r.lhs ≡ A → (x : Expansion) → r.expansion ≡ x → Attains es cell (weigh r) (cell b e A).value b e x e → Costs b e A (leaf i)
  leaf_costs b e A i fits r there from (Leaf c) is p =
      let one : span es b e ≡ get_or es b 0 ∷ [] = ap (span es b) (sym p.one) ∙ span_one es b (let h = p.one in omega arith) in (
        leaf_made m i A r there c is from (span es b e) (subst (Fits (c ∷ [])) (sym one) (p.fits, tt)),
        weighs i r there ∙ same (weigh r) (cell b e A) p.costs,
      )
  leaf_costs b e A i fits r there from (Pair B C) is p = absurd (let h = p.before in omega arith)

  -- the rival at a node is a pair rule's
  at_cut : (b e A i : ℕ) {Left Right : ℕ → ℕ → ℕ → Type 0} (p : AtNode m (Rival weigh m es cell) b e A i Left Right)
      → PairAttains cell (weigh (pair_rule A p.left p.right p.cost p.bottom)) (cell b e A).value b e p.left p.right p.cut
  at_cut b e A i p =
      let rule : Rule = pair_rule A p.left p.right p.cost p.bottom in
      let alike : p.here.rule ≡ rule = (let t = p.here.there in let u = p.rule in cc) in
      subst (λ (x : Rule). Attains es cell (weigh x) (cell b e A).value b e x.expansion p.cut) alike p.here.attains

  node_costs : (b e A i : ℕ) (l r : Tree) {Left Right : ℕ → ℕ → ℕ → Type 0} (p : AtNode m (Rival weigh m es cell) b e A i Left Right) → Costs b p.cut p.left l → Costs p.cut e p.right r → Costs b e A (node i l r)
  node_costs b e A i l r p left right =
      let k = p.cut in
      let q = at_cut b e A i p in
      let rule : Rule = pair_rule A p.left p.right p.cost p.bottom in
      let at : b + (k - b) ≡ k = (let h = q.after in omega arith) in
      let short : k - b ≤ e - b = (let h = q.before in omega arith) in
      let front : span es b k ≡ take (k - b) (span es b e) = ap (span es b) (sym at) ∙ sym (span_front es b e (k - b) short) in
      let back : span es k e ≡ drop (k - b) (span es b e) = ap (λ j. span es j e) (sym at) ∙ sym (span_back es b e (k - b) short) in (
        node_made m i A rule p.rule p.left p.right refl refl (span es b e) (k - b) l r (subst (λ s. DerivesEntries m p.left s l) front left.0) (subst (λ s. DerivesEntries m p.right s r) back right.0),
        ap₂ cost.times (weighs i rule p.rule) (ap₂ cost.times left.1 right.1) ∙ same _ (cell b e A) q.costs,
      )

  -- only that each node is a rival counts here, and not which
  pub rivals_cost : (b e A : ℕ) (t : Tree) → b < e → e ≤ length es → ByRivals weigh m es cell b e A t → Costs b e A t
  rivals_cost b e A (leaf i) some fits p = leaf_costs b e A i fits p.rule p.there p.from p.rule.expansion refl p.attains
  rivals_cost b e A (node i l r) some fits p =
      let q = at_cut b e A i p in
      let high = q.before in
      node_costs b e A i l r p (rivals_cost b p.cut p.left l q.after (omega arith) p.on_left) (rivals_cost p.cut e p.right r high fits p.on_right)

-- the sum over the starts is at most each start's cost
pub start_below : (m : Meaning) → Shown m → (cell : ℕ → Cost) (B : ℕ) → m.start B ≡ true → (start_sum cost m cell).value ≤ (cell B).value
start_below m shown cell B start =
    let f : ℕ → Cost = λ A. cond (m.start A) (cell A) cost.zero in
    let here = ap (λ b. (cond b (cell B) cost.zero).value) start in
    omega (arith, sum_below_le m.nonterminals f B (shown.starts B start))

-- the tree that was taken over all entries, from a start that attains the total
module _ (weigh : Rule → Cost) (m : Meaning) (shown : Shown m) (es : List ℕ) (cell : ℕ → ℕ → ℕ → Cost) (total : Cost)
    (is : TotalOf cost (EntriesFromStarts m es) (weight_of cost weigh m) total) (sums : total ≡ start_sum cost m (cell 0 (length es))) where
  pub cheapest : 0 < length es → (A : ℕ) → StartAttains m m.nonterminals (cell 0 (length es)) total.value A → ((B : ℕ) → StartAttains m m.nonterminals (cell 0 (length es)) total.value B → A ≤ B)
      → (part : List Record) → Taken weigh m es cell 0 (length es) A part → Cheapest weigh m es cell total part
  cheapest some A start first part taken =
      let t = taken.tree in
      let d = rivals_cost weigh m es cell 0 (length es) A t some (omega arith) taken.rivals in
      let costs : cost_of weigh m t ≡ total.value = ap (λ (x : Cost). x.value) d.1 ∙ start.costs in
      let least = total_least weigh m (EntriesFromStarts m es) total is in
      let value = ap (λ (x : Cost). x.value) sums in
      let at = start.costs in
      let least_start : (B : ℕ) → m.start B ≡ true → (cell 0 (length es) A).value ≤ (cell 0 (length es) B).value =
      λ B h. omega (arith, start_below m shown (cell 0 (length es)) B h) in
      record {
        tree = t;
        are = taken.are;
        derives = record { from = A; start = start.start; derives = subst (λ s. DerivesEntries m A s t) (span_all es) d.0 };
        least = λ u p. (let h = least.below u p in omega arith);
        costs = costs;
        start = record { start = start.start; least = least_start };
        rivals = taken.rivals;
        lowest_start = λ B p. first B (record { below = shown.starts B p.start; start = p.start; costs = (let h = p.least A start.start in let k = least_start B p.start in omega arith) });
        lowest = taken.lowest;
      }
