-- The rules of a renamed grammar, and what it shows. Assumes nothing.
use Rattle.std.specs.Prelude.{◌≡◌, ℕ, zero, suc, ◌*◌, ◌/◌, ◌%◌, ◌<◌, Bool, true, false, cond, List, [], ◌∷◌, replicate, Some, None, Option, ◌==◌, nat_le, nat_lt, slice_index_or, slice_set, refl}
use Rattle.std.proofs.Common.{sym, ap, subst, ◌∙◌, mod-lt, div-add-mod', arith, eqb-true, leb-true, ltb-true}
use Rattle.std.proofs.Math.Arith.{digits_lt}
use Rattle.grammar.specs.declared.refusal.Refusal.{Refusal}
use Rattle.grammar.specs.declared.rule.Rule.{Rule}
use Rattle.grammar.specs.declared.rule.Expansion.{Expansion}
use Rattle.grammar.specs.declared.rule.Expansion.TheVariants.{Pair, Leaf}
use Rattle.grammar.specs.Grammars.{Meaning, Shown, ShownRule}
use Rattle.grammar.specs.Derivations.{leaf_rule, pair_rule}
use Rattle.automata.specs.Making.{if_refused}
use Rattle.automata.specs.Laws.Truths.{no_some, some_is, cond_some}
use Rattle.layers.specs.declared.readings.Readings.{Readings}
use Rattle.layers.specs.Intersection.{is, blank}
use Rattle.layers.specs.Renaming.{Recorder, Recording, renamed_rule, renamed_any, renamed, renaming, renaming_refused, unread}
use Rattle.layers.specs.Held.{read_at, recorder}
use Rattle.layers.specs.Laws.Crossed.{is_step, rule_of_lem, code_of, blank_shown}

-- ---- a rule above comes from one below

pub record LeafRead (k : Recorder) (b x code cost bottom : ℕ) (o : Option Rule) : Type 0 where
  pub a : ℕ
  pub rule : o ≡ Some (leaf_rule x a cost bottom)
  pub named : code ≡ b
  pub read : k.read b ≡ Some a

pub record PairRead (b x left right cost bottom : ℕ) (o : Option Rule) : Type 0 where
  pub rule : o ≡ Some (pair_rule x left right cost bottom)
  pub first : b ≡ 0

leaf_at : (k : Recorder) (b x code cost bottom : ℕ) (rule : Rule) (y : Expansion) → rule.expansion ≡ y → renamed_rule k b rule y ≡ Some (leaf_rule x code cost bottom) → LeafRead k b x code cost bottom (Some rule)
unfolding code_of
leaf_at k b x code cost bottom rule (Pair left right) q e =
    let h = cond_some (b == 0) (pair_rule rule.lhs left right rule.cost rule.bottom) (leaf_rule x code cost bottom) e in
    let f = ap (λ (y : Rule). y.expansion) h.1 in
    let z : ◌≡◌ {A = ℕ} 0 1 = cc in absurd (omega arith)
leaf_at k b x code cost bottom rule (Leaf a) q e =
    let h = cond_some (is (k.read b) a) (leaf_rule rule.lhs b rule.cost rule.bottom) (leaf_rule x code cost bottom) e in
    let same = h.1 in
    let names : rule.lhs ≡ x = ap (λ (y : Rule). y.lhs) same in
    let costs : rule.cost ≡ cost = ap (λ (y : Rule). y.cost) same in
    let bottoms : rule.bottom ≡ bottom = ap (λ (y : Rule). y.bottom) same in
    record {
      a = a;
      rule = ap Some (rule_of_lem rule (Leaf a) q ∙ (λ i. leaf_rule (names i) a (costs i) (bottoms i)));
      named = sym (ap (λ (y : Rule). code_of y.expansion) same);
      read = is_step (k.read b) a h.0;
    }

pub leaf_read : (k : Recorder) (b x code cost bottom : ℕ) (o : Option Rule) → renamed_any k b o ≡ Some (leaf_rule x code cost bottom) → LeafRead k b x code cost bottom o
leaf_read k b x code cost bottom (Some rule) e = leaf_at k b x code cost bottom rule rule.expansion refl e
leaf_read k b x code cost bottom None e = absurd (no_some _ e)

pair_at : (k : Recorder) (b x left right cost bottom : ℕ) (rule : Rule) (y : Expansion) → rule.expansion ≡ y → renamed_rule k b rule y ≡ Some (pair_rule x left right cost bottom) → PairRead b x left right cost bottom (Some rule)
pair_at k b x left right cost bottom rule (Pair l r) q e =
    let h = cond_some (b == 0) (pair_rule rule.lhs l r rule.cost rule.bottom) (pair_rule x left right cost bottom) e in
    record { rule = ap Some (rule_of_lem rule (Pair l r) q ∙ h.1); first = eqb-true b 0 h.0 }
pair_at k b x left right cost bottom rule (Leaf a) q e =
    let h = cond_some (is (k.read b) a) (leaf_rule rule.lhs b rule.cost rule.bottom) (pair_rule x left right cost bottom) e in
    let f = ap (λ (y : Rule). y.expansion) h.1 in
    let z : ◌≡◌ {A = ℕ} 0 1 = cc in absurd (omega arith)

pub pair_read : (k : Recorder) (b x left right cost bottom : ℕ) (o : Option Rule) → renamed_any k b o ≡ Some (pair_rule x left right cost bottom) → PairRead b x left right cost bottom o
pair_read k b x left right cost bottom (Some rule) e = pair_at k b x left right cost bottom rule rule.expansion refl e
pair_read k b x left right cost bottom None e = absurd (no_some _ e)

-- ---- readings

pub nones : (n b : ℕ) → ◌≡◌ {A = Option ℕ} (slice_index_or (replicate n None) b None) None
nones zero b = refl
nones (suc n) zero = refl
nones (suc n) (suc b) = nones n b

pub none_within : (xs : List (Option ℕ)) → ((b : ℕ) → slice_index_or xs b None ≡ None) → (b a : ℕ) → slice_index_or xs b None ≡ Some a → a < 32
none_within xs h b a e = absurd (no_some a (sym (h b) ∙ e))

pub set_within : (xs : List (Option ℕ)) (k v : ℕ) → v < 32 → ((b a : ℕ) → slice_index_or xs b None ≡ Some a → a < 32) → (b a : ℕ) → slice_index_or (slice_set xs k (Some v)) b None ≡ Some a → a < 32
set_within [] k v hv h b a e = h b a e
set_within (x ∷ xs) zero v hv h zero a e = subst (λ (z : ℕ). z < 32) (some_is e) hv
set_within (x ∷ xs) zero v hv h (suc b) a e = h (suc b) a e
set_within (x ∷ xs) (suc k) v hv h zero a e = h zero a e
set_within (x ∷ xs) (suc k) v hv h (suc b) a e = set_within xs k v hv (λ c d. h (suc c) d) b a e

no_reading : (b : Bool) (o : Option ℕ) → o ≡ None → cond b o None ≡ None
no_reading true o e = e
no_reading false o e = refl

pub none_read : (count : ℕ) (codes : List (Option ℕ)) → ((b : ℕ) → slice_index_or codes b None ≡ None) → record { count = count; read = read_at count codes } ≡ unread count
none_read count codes h = λ i. record { count = count; read = λ b. no_reading (nat_lt b count) (slice_index_or codes b None) (h b) i }

read_at_some : (t : Bool) (o : Option ℕ) (a : ℕ) → cond t o None ≡ Some a → (t ≡ true) × (o ≡ Some a)
read_at_some true o a e = (refl, e)
read_at_some false o a e = absurd (no_some a e)

pub recording : (r : Readings) → Recording (recorder r)
recording r = record {
  some = r.some;
  few = r.few;
  within = λ b a e. let h = read_at_some (nat_lt b r.count) (slice_index_or r.codes b None) a e in (ltb-true b r.count h.0, r.within b a h.1);
}

-- ---- the law

laid_cond : {X : Type 0} (b : Bool) (y : X) → cond b None (Some y) ≡ None → b ≡ true
laid_cond true y e = refl
laid_cond false y e = absurd (no_some y (sym e))

module _ (k : Recorder) (wk : Recording k) (m : Meaning) (sm : Shown m) where
  abbrev C : ℕ
  C = k.count

  pos : 0 < C
  pos = wk.some

  numbered : (n : ℕ) → n / C < m.bound → n < (renamed k m).bound
  numbered n h = subst (λ (x : ℕ). x < (renamed k m).bound) (div-add-mod' n C) (digits_lt h (mod-lt n pos))

  fair_at : (n x : ℕ) (y : Expansion) (cost bottom : ℕ) → (renamed k m).rule n ≡ Some (record { lhs = x; expansion = y; cost = cost; bottom = bottom }) → ShownRule (renamed k m) n (record { lhs = x; expansion = y; cost = cost; bottom = bottom })
  fair_at n x (Pair left right) cost bottom e =
      let h = pair_read k (n % C) x left right cost bottom (m.rule (n / C)) e in
      let f = sm.rules (n / C) _ h.rule in
      record { numbered = numbered n f.numbered; from = f.from; into = f.into; cheap = f.cheap }
  fair_at n x (Leaf code) cost bottom e =
      let h = leaf_read k (n % C) x code cost bottom (m.rule (n / C)) e in
      let f = sm.rules (n / C) _ h.rule in
      record { numbered = numbered n f.numbered; from = f.from; into = subst (λ (z : ℕ). z < C) (sym h.named) (mod-lt n pos); cheap = f.cheap }

  shown_if : (o : Option Refusal) → renaming_refused k m ≡ o → Shown (if_refused o blank (renamed k m))
  shown_if (Some why) e = blank_shown
  shown_if None e = record {
    some = sm.some;
    few = sm.few;
    readable = wk.some;
    coded = wk.few;
    bounded = leb-true (m.bound * C) 16777216 (laid_cond (nat_le (m.bound * C) 16777216) _ e);
    rules = λ n r p. fair_at n r.lhs r.expansion r.cost r.bottom p;
    starts = sm.starts;
  }

  pub renaming_shown : Shown (renaming k m)
  renaming_shown = shown_if (renaming_refused k m) refl
