-- If what stands for every narrower span is its total, the sum over rules and cuts is the total. Assumes nothing.
use Rattle.std.proofs.Common.{◌≡◌, ℕ, suc, ◌-◌, ◌<◌, Bool, true, false, cond, eqb, List, [], ◌∷◌, length, take, drop, Some, None, Option, sym, refl, ap, ◌∙◌, subst, arith, eqb→eq, length-take, eq-eqb}
use Rattle.grammar.specs.declared.rule.Expansion.{Expansion}
use Rattle.grammar.specs.declared.rule.Expansion.TheVariants.{Pair, Leaf}
use Rattle.grammar.specs.declared.rule.Rule.{Rule}
use Rattle.semiring.specs.Semirings.{Operations, Laws}
use Rattle.grammar.specs.Grammars.{Meaning, Shown, Declared}
use Rattle.grammar.specs.Derivations.{Tree, leaf, node, has, Fits, DerivesEntries, leaves}
use Rattle.grammar.specs.Totals.{TotalOf, weighed, weight_of}
use Rattle.grammar.proofs.Terms.{leaf_term, expansion_term, rule_term, cell_sum}
use Rattle.grammar.proofs.Truths.{true_of, not_both}
use Rattle.grammar.proofs.Closure.{total_none, total_one, total_same, total_value, total_below, total_product}
use Rattle.grammar.proofs.Shapes.{root, entries_length, root_rule, leaf_shape, leaf_made, node_shape, node_made}

node_apart : (i : ℕ) (l l' r r' : Tree) → node i l r ≡ node i l' r' → (l ≡ l') × (r ≡ r')
node_apart i l l' r r' e = (cc, cc)

module _ {S : Type 0} {s : Operations S} (laws : Laws s) (weigh : Rule → S) (m : Meaning) (shown : Shown m) (A : ℕ) where
  abbrev pub Rooted : List ℕ → ℕ → Tree → Type 0
  Rooted es i t = DerivesEntries m A es t × (root t ≡ i)

  leaf_total : (i c : ℕ) (r : Rule) → m.rule i ≡ Some r → (es : List ℕ) → TotalOf s (λ t. (t ≡ leaf i) × Fits (c ∷ []) es) (weight_of s weigh m) (leaf_term s (weigh r) c es)
  leaf_total i c r there [] = total_none laws (weight_of s weigh m) (λ t h. h.1)
  leaf_total i c r there (e ∷ []) = go (has e c) refl
    where
      go : (b : Bool) → has e c ≡ b → TotalOf s (λ t. (t ≡ leaf i) × Fits (c ∷ []) (e ∷ [])) (weight_of s weigh m) (cond b (weigh r) s.zero)
      go true is = total_value laws (ap (weighed s weigh) there) (total_one laws (weight_of s weigh m) (leaf i) (refl, (is, tt)) (λ x h. h.0))
      go false is = total_none laws (weight_of s weigh m) (λ t h. not_both (has e c) h.1.0 is)
  leaf_total i c r there (e ∷ e' ∷ es) = total_none laws (weight_of s weigh m) (λ t h. h.1.1)

  module _ (es : List ℕ) (left right : ℕ → ℕ → S)
      (lefts : (k B : ℕ) → 0 < k → k < length es → B < m.nonterminals → TotalOf s (DerivesEntries m B (take k es)) (weight_of s weigh m) (left k B))
      (rights : (k C : ℕ) → 0 < k → k < length es → C < m.nonterminals → TotalOf s (DerivesEntries m C (drop k es)) (weight_of s weigh m) (right k C)) where
    abbrev Cut : ℕ → ℕ → ℕ → ℕ → Tree → Type 0
    Cut i B C j t = (x y : Tree) × DerivesEntries m B (take (suc j) es) x × DerivesEntries m C (drop (suc j) es) y × (t ≡ node i x y)

    pair_total : (i B C : ℕ) (r : Rule) → m.rule i ≡ Some r → (B < m.nonterminals) × (C < m.nonterminals)
        → TotalOf s (λ t. (j : ℕ) × (j < length es - 1) × Cut i B C j t) (weight_of s weigh m) (expansion_term s (weigh r) left right es (Pair B C))
    pair_total i B C r there names =
        total_below laws (Cut i B C) (λ j. s.times (weigh r) (s.times (left (suc j) B) (right (suc j) C))) (length es - 1)
        (λ j h. total_product laws (weight_of s weigh m) (weight_of s weigh m) (weight_of s weigh m) (node i) (weigh r)
        (λ x y. ap (λ o. s.times (weighed s weigh o) (s.times (weight_of s weigh m x) (weight_of s weigh m y))) there)
        (node_apart i) (lefts (suc j) B (omega arith) (omega arith) names.0) (rights (suc j) C (omega arith) (omega arith) names.1))
        (λ j j' t h h' p q.
        let same = (node_apart i p.0 q.0 p.1 q.1 (sym p.4 ∙ q.4)).0 in
        let a = entries_length m B (take (suc j) es) p.0 p.2 in
        let b = entries_length m B (take (suc j') es) q.0 q.2 in
        let c = ap leaves same in
        let d = length-take (suc j) es in
        let e = length-take (suc j') es in
        omega arith)

    expansion_total : (i : ℕ) (r : Rule) → m.rule i ≡ Some r → r.lhs ≡ A → (e : Expansion) → r.expansion ≡ e
        → TotalOf s (Rooted es i) (weight_of s weigh m) (expansion_term s (weigh r) left right es e)
    expansion_total i r there from (Leaf c) is =
        total_same laws (λ t h. (subst (DerivesEntries m A es) (sym h.0) (leaf_made m i A r there c is from es h.1), ap root h.0))
        (λ t h. leaf_shape m i A r there c is es t h.0 h.1) (leaf_total i c r there es)
    expansion_total i r there from (Pair B C) is =
        total_same laws (λ t h. let g = h.2 in (subst (DerivesEntries m A es) (sym g.4) (node_made m i A r there B C is from es (suc h.0) g.0 g.1 g.2 g.3), ap root g.4))
        (λ t h. node_shape m i A r there B C is es t h.0 h.1) (pair_total i B C r there (subst (Declared m) is (shown.rules i r there).into))

    rule_total : (i : ℕ) (o : Option Rule) → m.rule i ≡ o → TotalOf s (Rooted es i) (weight_of s weigh m) (rule_term s weigh A left right es o)
    rule_total i None is = total_none laws (weight_of s weigh m) (λ t h.
        let g = root_rule m A h.0.word t h.0.derives in let there = g.1 in let at = h.1 in
        let z : ◌≡◌ {A = ℕ} 0 1 = cc in omega arith)
    rule_total i (Some r) is = go (eqb r.lhs A) refl
      where
        go : (b : Bool) → eqb r.lhs A ≡ b → TotalOf s (Rooted es i) (weight_of s weigh m) (cond b (expansion_term s (weigh r) left right es r.expansion) s.zero)
        go true e = expansion_total i r is (eqb→eq r.lhs A (true_of _ e)) r.expansion refl
        go false e = total_none laws (weight_of s weigh m) (λ t h.
            let g = root_rule m A h.0.word t h.0.derives in let there = g.1 in let at = h.1 in let from = g.2 in
            let same : r.lhs ≡ A = cc in
            not_both (eqb r.lhs A) (ap (λ n. eqb n A) same ∙ eq-eqb A A refl) e)

    pub total_step : TotalOf s (DerivesEntries m A es) (weight_of s weigh m) (cell_sum s weigh m A left right es)
    total_step =
        total_same laws (λ t h. h.2.0)
        (λ t d. let h = root_rule m A d.word t d.derives in (root t, (shown.rules (root t) h.0 h.1).numbered, (d, refl)))
        (total_below laws (Rooted es) (λ i. rule_term s weigh A left right es (m.rule i)) m.bound (λ i _. rule_total i (m.rule i) refl) (λ i j t _ _ p q. sym p.1 ∙ q.1))
