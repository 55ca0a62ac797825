-- Rivals: that there is one, the first of them, and what follows of one. Assumes nothing.
use Rattle.std.proofs.Common.{◌≡◌, ℕ, zero, suc, ◌+◌, ◌-◌, ◌<◌, ◌≤◌, min, Bool, true, false, cond, ◌&&◌, eqb, List, get_or, Some, None, Option, sym, refl, ap, ◌∙◌, subst, inl, inr, arith, eqb→eq, MatchOption}
use native.Mathlib.Decide.{dec_le}
use Rattle.std.proofs.lemmas.Bool.{cases_lt}
use Rattle.semiring.specs.declared.cost.Cost.{Cost}
use Rattle.semiring.specs.Semirings.{sum_below}
use Rattle.semiring.specs.Costs.{cost, none}
use Rattle.grammar.specs.declared.rule.Expansion.{Expansion}
use Rattle.grammar.specs.declared.rule.Expansion.TheVariants.{Pair, Leaf}
use Rattle.grammar.specs.declared.rule.Rule.{Rule}
use Rattle.grammar.specs.Grammars.{Meaning}
use Rattle.grammar.specs.Derivations.{has}
use Rattle.grammar.specs.Spans.{cut_term, share, rule_share, shares}
use Rattle.grammar.proofs.Truths.{true_of}
use Rattle.tree.specs.declared.node.Choice.{Choice}
use Rattle.tree.specs.Rivals.{LeafAttains, PairAttains, Attains, Rival}
use Rattle.tree.specs.Steps.{PickedOne, Picked, PickedOf}

-- the smallest cut of the lowest rule number
pub picked_first : (R : ℕ → ℕ → Type 0) (m : Meaning) (i : ℕ) → ((j : ℕ) → j < i → (h : ℕ) → R j h → ⊥) → (c : Choice) → PickedOne R m i c → Picked R m c
picked_first R m i early c p = record {
  number = i;
  there = p.there;
  rival = p.rival;
  first = record { lowest = λ j h r. elim (cases_lt j i) [ inl before ↦ absurd (early j before h r) | inr late ↦ late ]; smallest = p.smallest };
}

-- the first of all numbers below n
pub picked_of : (R : ℕ → ℕ → Type 0) (m : Meaning) (n : ℕ) → ((i k : ℕ) → R i k → i < n) → (r : Option Choice)
    → MatchOption r ((i : ℕ) → 0 ≤ i → i < n → (k : ℕ) → R i k → ⊥) (λ c. (i : ℕ) × (0 ≤ i) × (i < n) × PickedOne R m i c × ((j : ℕ) → 0 ≤ j → j < i → (k : ℕ) → R j k → ⊥)) → PickedOf R m r
picked_of R m n below None h = λ i k r. h i (omega arith) (below i k r) k r
picked_of R m n below (Some c) h = picked_first R m h.0 (λ j early k r. h.4 j (omega arith) early k r) c h.3

-- a sum in the cost semiring is one of its terms, or none
pub sum_attained : (n : ℕ) (f : ℕ → Cost) → (sum_below cost n f).value < none → (i : ℕ) × (i < n) × ((f i).value ≡ (sum_below cost n f).value)
unfolding sum_below
sum_attained zero f h = absurd (omega arith)
sum_attained (suc n) f h = go (sum_attained n f) (dec_le (sum_below cost n f).value (f n).value)
  where
    go : ((sum_below cost n f).value < none → (i : ℕ) × (i < n) × ((f i).value ≡ (sum_below cost n f).value)) → Dec ((sum_below cost n f).value ≤ (f n).value)
        → (i : ℕ) × (i < suc n) × ((f i).value ≡ min (sum_below cost n f).value (f n).value)
    go deep (yes l) = let d = deep (omega arith) in (d.0, (let k = d.1 in omega arith), (let k = d.2 in omega arith))
    go deep (no l) = (n, omega arith, omega arith)

-- and it is below each of them
pub sum_below_le : (n : ℕ) (f : ℕ → Cost) (i : ℕ) → i < n → (sum_below cost n f).value ≤ (f i).value
unfolding sum_below
sum_below_le zero f i h = absurd (omega arith)
sum_below_le (suc n) f i h = elim (cases_lt i n) [
  | inl early ↦ omega (arith, sum_below_le n f i early)
  | inr late ↦ let same : n ≡ i = omega arith in let e = ap (λ k. (f k).value) same in omega arith
]

both_of : (b c : Bool) → (b && c) ≡ true → (b ≡ true) × (c ≡ true)
both_of true c e = (refl, e)
both_of false c e = let z : ◌≡◌ {A = ℕ} 0 1 = cc in absurd (let k : ⊥ = omega arith in k)

module _ (weigh : Rule → Cost) (m : Meaning) (es : List ℕ) (cell : ℕ → ℕ → ℕ → Cost) (begin end A : ℕ) where
  abbrev last : ℕ
  last = get_or es (end - 1) 0

  expansion_rival : (v : ℕ) (w : Cost) (x : Expansion) → v < none → (share cost cell w last begin end x).value ≡ v → (k : ℕ) × Attains es cell w v begin end x k
  expansion_rival v w (Leaf c) h e = go (eqb (begin + 1) end && has last c) refl
    where
      go : (b : Bool) → (eqb (begin + 1) end && has last c) ≡ b → (k : ℕ) × LeafAttains es w v begin end c k
      go true is =
          let t = both_of (eqb (begin + 1) end) (has last c) is in
          let one : begin + 1 ≡ end = eqb→eq (begin + 1) end (true_of _ t.0) in
          let at : end - 1 ≡ begin = omega arith in
          (end, record { one = one; fits = subst (λ k. has (get_or es k 0) c ≡ true) at t.1; costs = sym (ap (λ b. (cond b w cost.zero).value) is) ∙ e; cut = refl })
      go false is = let z = ap (λ b. (cond b w cost.zero).value) is in absurd (omega arith)
  expansion_rival v w (Pair B C) h e =
      let d = sum_attained (end - (begin + 1)) (cut_term cost cell w begin end B C) (omega arith) in
      (begin + 1 + d.0, record { after = omega arith; before = (let l = d.1 in omega arith); costs = d.2 ∙ e })

  -- where a cell is the sum of its shares and is not none, there is a rival
  pub rival_exists : cell begin end A ≡ shares cost cell weigh m last begin end A m.bound → (cell begin end A).value < none → (i k : ℕ) × Rival weigh m es cell begin end A i k
  rival_exists filled h =
      let v : ℕ = (cell begin end A).value in
      let e : v ≡ (shares cost cell weigh m last begin end A m.bound).value = ap (λ (x : Cost). x.value) filled in
      let d = sum_attained m.bound (λ i. rule_share cost cell weigh last begin end A (m.rule i)) (omega arith) in
      rule_rival d.0 (m.rule d.0) refl (d.2 ∙ sym e)
    where
      from_rule : (i : ℕ) (r : Rule) → m.rule i ≡ Some r → (b : Bool) → eqb r.lhs A ≡ b
          → (cond b (share cost cell (weigh r) last begin end r.expansion) cost.zero).value ≡ (cell begin end A).value → (i k : ℕ) × Rival weigh m es cell begin end A i k
      from_rule i r is true same e =
          let d = expansion_rival (cell begin end A).value (weigh r) r.expansion h e in
          (i, d.0, record { rule = r; there = is; from = eqb→eq r.lhs A (true_of _ same); attains = d.1 })
      from_rule i r is false same e = absurd (omega arith)

      rule_rival : (i : ℕ) (o : Option Rule) → m.rule i ≡ o → (rule_share cost cell weigh last begin end A o).value ≡ (cell begin end A).value → (i k : ℕ) × Rival weigh m es cell begin end A i k
      rule_rival i None is e = absurd (omega arith)
      rule_rival i (Some r) is e = from_rule i r is (eqb r.lhs A) refl e

  -- what is picked attains the cost by the rule that is written
  pub attained : (c : Choice) → Picked (Rival weigh m es cell begin end A) m c → Attains es cell (weigh c.rule) (cell begin end A).value begin end c.rule.expansion c.cut
  attained c p =
      let same : p.rival.rule ≡ c.rule = (let t = p.rival.there in let u = p.there in cc) in
      subst (λ (r : Rule). Attains es cell (weigh r) (cell begin end A).value begin end r.expansion c.cut) same p.rival.attains

  pub picked_from : (c : Choice) → Picked (Rival weigh m es cell begin end A) m c → c.rule.lhs ≡ A
  picked_from c p =
      let same : p.rival.rule ≡ c.rule = (let t = p.rival.there in let u = p.there in cc) in
      subst (λ (r : Rule). r.lhs ≡ A) same p.rival.from

  pub leaf_attained : (c : Choice) (code : ℕ) → Picked (Rival weigh m es cell begin end A) m c → c.rule.expansion ≡ Leaf code → LeafAttains es (weigh c.rule) (cell begin end A).value begin end code c.cut
  leaf_attained c code p is = subst (λ x. Attains es cell (weigh c.rule) (cell begin end A).value begin end x c.cut) is (attained c p)

  pub pair_attained : (c : Choice) (left right : ℕ) → Picked (Rival weigh m es cell begin end A) m c → c.rule.expansion ≡ Pair left right → PairAttains cell (weigh c.rule) (cell begin end A).value begin end left right c.cut
  pair_attained c left right p is = subst (λ x. Attains es cell (weigh c.rule) (cell begin end A).value begin end x c.cut) is (attained c p)
