-- Each derivation of least cost is made of rivals. Assumes nothing.
use Rattle.std.proofs.Common.{◌≡◌, ℕ, suc, ◌+◌, ◌-◌, ◌<◌, ◌≤◌, true, ◌⊎◌, List, [], ◌∷◌, length, get_or, Some, sym, refl, ap, ◌∙◌, subst, inl, inr, arith}
use Rattle.semiring.specs.declared.cost.Cost.{Cost}
use Rattle.semiring.specs.Costs.{cost, none}
use Rattle.grammar.specs.declared.rule.Rule.{Rule}
use Rattle.grammar.specs.Grammars.{Meaning, Shown}
use Rattle.grammar.specs.Derivations.{Tree, leaf, node, leaf_rule, pair_rule, Fits, DerivesEntries}
use Rattle.grammar.specs.Totals.{weighed}
use Rattle.grammar.specs.Spans.{span, Stands}
use Rattle.grammar.specs.Costs.{cost_of, Least}
use Rattle.grammar.proofs.Shapes.{leaf_shape, node_shape, node_made, entries_length, some_leaf}
use Rattle.grammar.proofs.Spanning.{span_length, span_one, span_front, span_back, span_all}
use Rattle.grammar.proofs.Cheapest.{total_least}
use Rattle.tree.specs.Rivals.{Rival, ByRivals}
use Rattle.tree.specs.Trees.{EveryCheapest}

node_parts : (i : ℕ) (l l' r r' : Tree) → node i l r ≡ node i l' r' → (l ≡ l') × (r ≡ r')
node_parts i l l' r r' e = (cc, cc)

module _ (weigh : Rule → Cost) (m : Meaning) (shown : Shown m) (es : List ℕ) (cell : ℕ → ℕ → ℕ → Cost) (stand : Stands cost weigh m es cell) where
  least : (b e A : ℕ) → b < e → e ≤ length es → A < m.nonterminals → Least weigh m (DerivesEntries m A (span es b e)) (cell b e A).value
  least b e A some fits name = total_least weigh m (DerivesEntries m A (span es b e)) (cell b e A) (stand b e A some fits name)

  -- where v is not none, some derivation attains it
  attained : (P : Tree → Type 0) (v : ℕ) → v < none → Least weigh m P v → (t : Tree) × P t × (v ≡ cost_of weigh m t)
  attained P v h l = go l.attained
    where
      go : (v ≡ none) ⊎ ((t : Tree) × P t × (v ≡ cost_of weigh m t)) → (t : Tree) × P t × (v ≡ cost_of weigh m t)
      go (inl x) = absurd (omega arith)
      go (inr x) = x

  leaf_rival : (b e A i : ℕ) → b < e → e ≤ length es → DerivesEntries m A (span es b e) (leaf i) → cost_of weigh m (leaf i) ≡ (cell b e A).value → Rival weigh m es cell b e A i e
  leaf_rival b e A i some fits d is =
      let p = d.derives in
      let c = p.code in
      let rule : Rule = leaf_rule A c p.cost p.bottom in
      let shape = leaf_shape m i A rule p.rule c refl (span es b e) (leaf i) d refl in
      let one : b + 1 ≡ e = omega (arith, entries_length m A (span es b e) (leaf i) d, span_length es b e fits) in
      let single : span es b e ≡ get_or es b 0 ∷ [] = ap (span es b) (sym one) ∙ span_one es b (omega arith) in
      record {
        rule = rule;
        there = p.rule;
        from = refl;
        attains = record { one = one; fits = (subst (Fits (c ∷ [])) single shape.1).0; costs = sym (ap (λ o. (weighed cost weigh o).value) p.rule) ∙ is; cut = refl };
      }

  -- a derivation of least cost at a node: the choice is a rival, and the parts are derivations of least cost
  record Split (b e A i : ℕ) (l r : Tree) : Type 0 where
    left : ℕ
    right : ℕ
    cost : ℕ
    bottom : ℕ
    cut : ℕ
    rule : m.rule i ≡ Some (pair_rule A left right cost bottom)
    here : Rival weigh m es cell b e A i cut
    low : b < cut
    high : cut < e
    left_name : left < m.nonterminals
    right_name : right < m.nonterminals
    on_left : DerivesEntries m left (span es b cut) l
    on_right : DerivesEntries m right (span es cut e) r
    left_least : cost_of weigh m l ≡ (cell b cut left).value
    right_least : cost_of weigh m r ≡ (cell cut e right).value
    left_some : (cell b cut left).value < none
    right_some : (cell cut e right).value < none

  split : (b e A i : ℕ) (l r : Tree) → b < e → e ≤ length es → A < m.nonterminals → DerivesEntries m A (span es b e) (node i l r) → cost_of weigh m (node i l r) ≡ (cell b e A).value → (cell b e A).value < none
      → Split b e A i l r
  split b e A i l r some fits name d is below =
      let p = d.derives in
      let B = p.left in
      let C = p.right in
      let rule : Rule = pair_rule A B C p.cost p.bottom in
      let names = (shown.rules i rule p.rule).into in
      let s = node_shape m i A rule p.rule B C refl (span es b e) (node i l r) d refl in
      let j = s.0 in
      let k = b + suc j in
      let cut = s.2 in
      let same = node_parts i l cut.0 r cut.1 cut.4 in
      let size = span_length es b e fits in
      let short = s.1 in
      let low : b < k = omega arith in
      let high : k < e = omega arith in
      let within : suc j ≤ e - b = omega arith in
      let dl : DerivesEntries m B (span es b k) l = subst (λ t. DerivesEntries m B (span es b k) t) (sym same.0) (subst (λ q. DerivesEntries m B q cut.0) (span_front es b e (suc j) within) cut.2) in
      let dr : DerivesEntries m C (span es k e) r = subst (λ t. DerivesEntries m C (span es k e) t) (sym same.1) (subst (λ q. DerivesEntries m C q cut.1) (span_back es b e (suc j) within) cut.3) in
      let ll = least b k B low (omega arith) names.0 in
      let lr = least k e C high fits names.1 in
      let weighs : (weighed cost weigh (m.rule i)).value ≡ (weigh rule).value = ap (λ o. (weighed cost weigh o).value) p.rule in
      let cl = ll.below l dl in
      let cr = lr.below r dr in
      let some_left : (cell b k B).value < none = omega arith in
      let some_right : (cell k e C).value < none = omega arith in
      let tl = attained (DerivesEntries m B (span es b k)) (cell b k B).value some_left ll in
      let tr = attained (DerivesEntries m C (span es k e)) (cell k e C).value some_right lr in
      let made : DerivesEntries m A (span es b e) (node i tl.0 tr.0) =
      node_made m i A rule p.rule B C refl refl (span es b e) (suc j) tl.0 tr.0
      (subst (λ q. DerivesEntries m B q tl.0) (sym (span_front es b e (suc j) within)) tl.1)
      (subst (λ q. DerivesEntries m C q tr.0) (sym (span_back es b e (suc j) within)) tr.1) in
      let top = (least b e A some fits name).below (node i tl.0 tr.0) made in
      let el = tl.2 in
      let er = tr.2 in
      record {
        left = B;
        right = C;
        cost = p.cost;
        bottom = p.bottom;
        cut = k;
        rule = p.rule;
        here = record { rule = rule; there = p.rule; from = refl; attains = record { after = low; before = high; costs = omega arith } };
        low = low;
        high = high;
        left_name = names.0;
        right_name = names.1;
        on_left = dl;
        on_right = dr;
        left_least = omega arith;
        right_least = omega arith;
        left_some = some_left;
        right_some = some_right;
      }

  pub least_rivals : (b e A : ℕ) (t : Tree) → b < e → e ≤ length es → A < m.nonterminals → DerivesEntries m A (span es b e) t → cost_of weigh m t ≡ (cell b e A).value → (cell b e A).value < none → ByRivals weigh m es cell b e A t
  least_rivals b e A (leaf i) some fits name d is below = leaf_rival b e A i some fits d is
  least_rivals b e A (node i l r) some fits name d is below =
      let s = split b e A i l r some fits name d is below in
      let high = s.high in
      record {
        left = s.left;
        right = s.right;
        cost = s.cost;
        bottom = s.bottom;
        cut = s.cut;
        rule = s.rule;
        here = s.here;
        on_left = least_rivals b s.cut s.left l s.low (omega arith) s.left_name s.on_left s.left_least s.left_some;
        on_right = least_rivals s.cut e s.right r high fits s.right_name s.on_right s.right_least s.right_some;
      }

  pub every_cheapest : EveryCheapest weigh m es cell
  every_cheapest t d below cheap =
      let A = d.from in
      let n = length es in
      let name = shown.starts A d.start in
      let long : 0 < n = omega (arith, entries_length m A es t d.derives, some_leaf t) in
      let whole : DerivesEntries m A (span es 0 n) t = subst (λ s. DerivesEntries m A s t) (sym (span_all es)) d.derives in
      let here = least 0 n A long (omega arith) name in
      let low = here.below t whole in
      let same : cost_of weigh m t ≡ (cell 0 n A).value = omega (arith, no_cheaper A d.start long) in (
        record { start = d.start; least = λ B start. (let h = no_cheaper B start long in omega arith) },
        least_rivals 0 n A t long (omega arith) name whole same (omega arith),
      )
    where
      no_cheaper : (B : ℕ) → m.start B ≡ true → 0 < length es → cost_of weigh m t ≤ (cell 0 (length es) B).value
      no_cheaper B start long = go (least 0 (length es) B long (omega arith) (shown.starts B start)).attained
        where
          go : ((cell 0 (length es) B).value ≡ none) ⊎ ((u : Tree) × DerivesEntries m B (span es 0 (length es)) u × ((cell 0 (length es) B).value ≡ cost_of weigh m u)) → cost_of weigh m t ≤ (cell 0 (length es) B).value
          go (inl x) = omega arith
          go (inr x) = (let h = cheap x.0 (record { from = B; start = start; derives = subst (λ s. DerivesEntries m B s x.0) (span_all es) x.1 }) in let e = x.2 in omega arith)
