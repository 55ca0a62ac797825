-- The rules of a grammar crossed with an automaton, and what it shows. Assumes nothing.
use Rattle.std.specs.Prelude.{◌≡◌, ℕ, ◌*◌, ◌/◌, ◌%◌, ◌<◌, ◌≤◌, Bool, true, false, cond, ◌&&◌, Some, None, Option, ◌==◌, ◌≢◌, nat_le, nat_lt, refl}
use Rattle.std.proofs.Common.{sym, ap, subst, ◌∙◌, mod-lt, mul-pos, arith, eqb-true, eq-eqb, leb-true}
use Rattle.std.proofs.Math.Arith.{digits_lt}
use Rattle.grammar.specs.declared.rule.Rule.{Rule}
use Rattle.grammar.specs.declared.rule.Expansion.{Expansion}
use Rattle.grammar.specs.declared.rule.Expansion.TheVariants.{Pair, Leaf}
use Rattle.grammar.specs.declared.refusal.Refusal.{Refusal}
use Rattle.grammar.specs.Grammars.{Meaning, Shown, ShownRule, Declared}
use Rattle.grammar.specs.Derivations.{leaf_rule, pair_rule}
use Rattle.automata.specs.Machines.{Machine, Working}
use Rattle.automata.specs.Making.{if_refused}
use Rattle.automata.specs.Laws.Truths.{and_left, and_right, some_is, no_some}
use Rattle.layers.specs.Intersection.{crossed, crossed_number, is, crossed_rule, crossed_any, crossing, blank, intersection, intersection_refused, Small}
use Rattle.layers.specs.Laws.Numbers.{crossed_whole, number_whole}

-- ---- tests

pub is_step : (o : Option ℕ) (r : ℕ) → is o r ≡ true → o ≡ Some r
is_step (Some s) r e = ap Some (eqb-true s r e)
is_step None r e = let z : ◌≡◌ {A = ℕ} 0 1 = cc in absurd (omega arith)

pub step_is : (o : Option ℕ) (r : ℕ) → o ≡ Some r → is o r ≡ true
step_is o r e = ap (λ (x : Option ℕ). is x r) e ∙ eq-eqb r r refl

-- ---- a rule above comes from one below

pub record LeafBelow (k : Machine) (p s r x code cost bottom : ℕ) (o : Option Rule) : Type 0 where
  pub a : ℕ
  pub rule : o ≡ Some (leaf_rule a code cost bottom)
  pub name : x ≡ crossed k.states a p r
  pub middle : s ≡ 0
  pub step : k.step p code ≡ Some r

pub record PairBelow (k : Machine) (p s r x left right cost bottom : ℕ) (o : Option Rule) : Type 0 where
  pub a : ℕ
  pub b : ℕ
  pub c : ℕ
  pub rule : o ≡ Some (pair_rule a b c cost bottom)
  pub name : x ≡ crossed k.states a p r
  pub left_name : left ≡ crossed k.states b p s
  pub right_name : right ≡ crossed k.states c s r

pub rule_of_lem : (rule : Rule) (e : Expansion) → rule.expansion ≡ e → rule ≡ record { lhs = rule.lhs; expansion = e; cost = rule.cost; bottom = rule.bottom }
rule_of_lem rule e q = λ i. record { lhs = rule.lhs; expansion = q i; cost = rule.cost; bottom = rule.bottom }

unfoldable pub code_of : Expansion → ℕ
code_of (Pair left right) = 0
code_of (Leaf code) = code

unfoldable pub left_of : Expansion → ℕ
left_of (Pair left right) = left
left_of (Leaf code) = 0

unfoldable pub right_of : Expansion → ℕ
right_of (Pair left right) = right
right_of (Leaf code) = 0

leaf_cond : (k : Machine) (p s r x code cost bottom : ℕ) (rule : Rule) (c : ℕ) → rule.expansion ≡ Leaf c → (t : Bool) → (t ≡ true → (s ≡ 0) × (k.step p c ≡ Some r)) → cond t (Some (leaf_rule (crossed k.states rule.lhs p r) c rule.cost rule.bottom)) None ≡ Some (leaf_rule x code cost bottom) → LeafBelow k p s r x code cost bottom (Some rule)
unfolding code_of
leaf_cond k p s r x code cost bottom rule c q true h e =
    let same : leaf_rule (crossed k.states rule.lhs p r) c rule.cost rule.bottom ≡ leaf_rule x code cost bottom = some_is e in
    let codes : c ≡ code = ap (λ (y : Rule). code_of y.expansion) same in
    let costs : rule.cost ≡ cost = ap (λ (y : Rule). y.cost) same in
    let bottoms : rule.bottom ≡ bottom = ap (λ (y : Rule). y.bottom) same in
    record {
      a = rule.lhs;
      rule = ap Some (rule_of_lem rule (Leaf c) q ∙ (λ i. leaf_rule rule.lhs (codes i) (costs i) (bottoms i)));
      name = sym (ap (λ (y : Rule). y.lhs) same);
      middle = (h refl).0;
      step = ap (λ (y : ℕ). k.step p y) (sym codes) ∙ (h refl).1;
    }
leaf_cond k p s r x code cost bottom rule c q false h e = let z : ◌≡◌ {A = ℕ} 0 1 = cc in absurd (omega arith)

leaf_at : (k : Machine) (p s r x code cost bottom : ℕ) (rule : Rule) (y : Expansion) → rule.expansion ≡ y → crossed_rule k p s r rule y ≡ Some (leaf_rule x code cost bottom) → LeafBelow k p s r x code cost bottom (Some rule)
leaf_at k p s r x code cost bottom rule (Pair left right) q e =
    let f = ap (λ (y : Rule). y.expansion) (some_is e) in let z : ◌≡◌ {A = ℕ} 0 1 = cc in absurd (omega arith)
leaf_at k p s r x code cost bottom rule (Leaf c) q e =
    leaf_cond k p s r x code cost bottom rule c q (s == 0 && is (k.step p c) r)
    (λ t. (eqb-true s 0 (and_left (s == 0) _ t), is_step (k.step p c) r (and_right (s == 0) _ t))) e

pub leaf_below : (k : Machine) (p s r x code cost bottom : ℕ) (o : Option Rule) → crossed_any k p s r o ≡ Some (leaf_rule x code cost bottom) → LeafBelow k p s r x code cost bottom o
leaf_below k p s r x code cost bottom (Some rule) e = leaf_at k p s r x code cost bottom rule rule.expansion refl e
leaf_below k p s r x code cost bottom None e = let z : ◌≡◌ {A = ℕ} 0 1 = cc in absurd (omega arith)

no_leaf : (k : Machine) (p s r x left right cost bottom : ℕ) (rule : Rule) (c : ℕ) (t : Bool) → cond t (Some (leaf_rule (crossed k.states rule.lhs p r) c rule.cost rule.bottom)) None ≢ Some (pair_rule x left right cost bottom)
no_leaf k p s r x left right cost bottom rule c true e =
    let f = ap (λ (y : Rule). y.expansion) (some_is e) in let z : ◌≡◌ {A = ℕ} 0 1 = cc in omega arith
no_leaf k p s r x left right cost bottom rule c false e = let z : ◌≡◌ {A = ℕ} 0 1 = cc in omega arith

pair_at : (k : Machine) (p s r x left right cost bottom : ℕ) (rule : Rule) (y : Expansion) → rule.expansion ≡ y → crossed_rule k p s r rule y ≡ Some (pair_rule x left right cost bottom) → PairBelow k p s r x left right cost bottom (Some rule)
unfolding left_of right_of
pair_at k p s r x left right cost bottom rule (Pair b c) q e =
    let same : pair_rule (crossed k.states rule.lhs p r) (crossed k.states b p s) (crossed k.states c s r) rule.cost rule.bottom ≡ pair_rule x left right cost bottom = some_is e in
    let costs : rule.cost ≡ cost = ap (λ (y : Rule). y.cost) same in
    let bottoms : rule.bottom ≡ bottom = ap (λ (y : Rule). y.bottom) same in
    record {
      a = rule.lhs;
      b = b;
      c = c;
      rule = ap Some (rule_of_lem rule (Pair b c) q ∙ (λ i. pair_rule rule.lhs b c (costs i) (bottoms i)));
      name = sym (ap (λ (y : Rule). y.lhs) same);
      left_name = sym (ap (λ (y : Rule). left_of y.expansion) same);
      right_name = sym (ap (λ (y : Rule). right_of y.expansion) same);
    }
pair_at k p s r x left right cost bottom rule (Leaf c) q e = absurd (no_leaf k p s r x left right cost bottom rule c (s == 0 && is (k.step p c) r) e)

pub pair_below : (k : Machine) (p s r x left right cost bottom : ℕ) (o : Option Rule) → crossed_any k p s r o ≡ Some (pair_rule x left right cost bottom) → PairBelow k p s r x left right cost bottom o
pair_below k p s r x left right cost bottom (Some rule) e = pair_at k p s r x left right cost bottom rule rule.expansion refl e
pair_below k p s r x left right cost bottom None e = let z : ◌≡◌ {A = ℕ} 0 1 = cc in absurd (omega arith)

-- laid with 0, the counts are within their limits
laid_cond : {X : Type 0} (a b : Bool) (x y : X) → cond a (Some x) (cond b None (Some y)) ≡ None → b ≡ true
laid_cond true b x y e = absurd (no_some x (sym e))
laid_cond false true x y e = refl
laid_cond false false x y e = absurd (no_some y (sym e))

pub few_laid : (k : Machine) (m : Meaning) → intersection_refused k m ≡ None → (crossing k m).nonterminals ≤ 4096
few_laid k m e =
    leb-true (crossing k m).nonterminals 4096
    (and_left (nat_le (crossing k m).nonterminals 4096) (nat_le (crossing k m).bound 16777216) (laid_cond (nat_lt k.codes m.codes) _ _ _ e))

pub bounded_laid : (k : Machine) (m : Meaning) → intersection_refused k m ≡ None → (crossing k m).bound ≤ 16777216
bounded_laid k m e =
    leb-true (crossing k m).bound 16777216
    (and_right (nat_le (crossing k m).nonterminals 4096) (nat_le (crossing k m).bound 16777216) (laid_cond (nat_lt k.codes m.codes) _ _ _ e))

pub crossed_below : (n q a p r : ℕ) → a < n → p < q → r < q → crossed q a p r < n * q * q
crossed_below n q a p r ha hp hr = digits_lt (digits_lt ha hp) hr

number_below : (n q i p s r : ℕ) → i < n → p < q → s < q → r < q → crossed_number q i p s r < n * q * q * q
number_below n q i p s r hi hp hs hr = digits_lt (digits_lt (digits_lt hi hp) hs) hr

pub blank_shown : Shown blank
blank_shown = record {
  some = omega arith;
  few = omega arith;
  readable = omega arith;
  coded = omega arith;
  bounded = omega arith;
  rules = λ i r e. absurd (no_some r e);
  starts = λ a e. let z : ◌≡◌ {A = ℕ} 0 1 = cc in absurd (omega arith);
}

module _ (k : Machine) (wk : Working k) (m : Meaning) (sm : Shown m) where
  abbrev Q : ℕ
  Q = k.states

  pos : 0 < Q
  pos = wk.some

  numbered : (n : ℕ) → n / Q / Q / Q < m.bound → n < (crossing k m).bound
  numbered n h = subst (λ (x : ℕ). x < (crossing k m).bound) (number_whole Q n) (number_below m.bound Q (n / Q / Q / Q) _ _ _ h (mod-lt (n / Q / Q) pos) (mod-lt (n / Q) pos) (mod-lt n pos))

  named : (x a p r : ℕ) → x ≡ crossed Q a p r → a < m.nonterminals → p < Q → r < Q → x < (crossing k m).nonterminals
  named x a p r e ha hp hr = subst (λ (z : ℕ). z < (crossing k m).nonterminals) (sym e) (crossed_below m.nonterminals Q a p r ha hp hr)

  fair_leaf : (n x code cost bottom : ℕ) → (crossing k m).rule n ≡ Some (leaf_rule x code cost bottom) → ShownRule (crossing k m) n (leaf_rule x code cost bottom)
  fair_leaf n x code cost bottom e =
      let h = leaf_below k (n / Q / Q % Q) (n / Q % Q) (n % Q) x code cost bottom (m.rule (n / Q / Q / Q)) e in
      let f = sm.rules (n / Q / Q / Q) _ h.rule in
      record {
        numbered = numbered n f.numbered;
        from = named x h.a _ _ h.name f.from (mod-lt (n / Q / Q) pos) (mod-lt n pos);
        into = f.into;
        cheap = f.cheap;
      }

  fair_pair : (n x left right cost bottom : ℕ) → (crossing k m).rule n ≡ Some (pair_rule x left right cost bottom) → ShownRule (crossing k m) n (pair_rule x left right cost bottom)
  fair_pair n x left right cost bottom e =
      let h = pair_below k (n / Q / Q % Q) (n / Q % Q) (n % Q) x left right cost bottom (m.rule (n / Q / Q / Q)) e in
      let f = sm.rules (n / Q / Q / Q) _ h.rule in
      record {
        numbered = numbered n f.numbered;
        from = named x h.a _ _ h.name f.from (mod-lt (n / Q / Q) pos) (mod-lt n pos);
        into = (
          named left h.b _ _ h.left_name f.into.0 (mod-lt (n / Q / Q) pos) (mod-lt (n / Q) pos),
          named right h.c _ _ h.right_name f.into.1 (mod-lt (n / Q) pos) (mod-lt n pos),
        );
        cheap = f.cheap;
      }

  fair_at : (n x : ℕ) (y : Expansion) (cost bottom : ℕ) → (crossing k m).rule n ≡ Some (record { lhs = x; expansion = y; cost = cost; bottom = bottom }) → ShownRule (crossing k m) n (record { lhs = x; expansion = y; cost = cost; bottom = bottom })
  fair_at n x (Pair left right) cost bottom e = fair_pair n x left right cost bottom e
  fair_at n x (Leaf code) cost bottom e = fair_leaf n x code cost bottom e

  start_below : (x : ℕ) → (crossing k m).start x ≡ true → x < (crossing k m).nonterminals
  start_below x e =
      named x (x / Q / Q) (x / Q % Q) (x % Q) (sym (crossed_whole Q x)) (sm.starts (x / Q / Q) (and_left (m.start (x / Q / Q)) _ e)) (mod-lt (x / Q) pos) (mod-lt x pos)

  shown_if : (o : Option Refusal) → intersection_refused k m ≡ o → Shown (if_refused o blank (crossing k m))
  shown_if (Some why) e = blank_shown
  shown_if None e = record {
    some = mul-pos (mul-pos sm.some pos) pos;
    few = few_laid k m e;
    readable = sm.readable;
    coded = sm.coded;
    bounded = bounded_laid k m e;
    rules = λ n r p. fair_at n r.lhs r.expansion r.cost r.bottom p;
    starts = start_below;
  }

  pub intersection_shown : Shown (intersection k m)
  intersection_shown = shown_if (intersection_refused k m) refl

-- a rule that is there names small nonterminals
small : (m : Meaning) → Shown m → (e : Expansion) → Declared m e → Small e
small m shown (Pair left right) d = let few = shown.few in let l = d.0 in let r = d.1 in (omega arith, omega arith)
small m shown (Leaf code) d = tt

pub small_rule : (m : Meaning) → Shown m → (i : ℕ) (r : Rule) → Some r ≡ m.rule i → (r.lhs < 4096) × Small r.expansion
small_rule m shown i r e =
    let h = shown.rules i r (sym e) in
    let from = h.from in
    let few = shown.few in
    (omega arith, small m shown r.expansion h.into)
