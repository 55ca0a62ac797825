-- The rules of the numbers below a bound, one number more at a time. Assumes nothing.
use Rattle.std.proofs.Common.{◌≡◌, ℕ, zero, suc, ◌+◌, ◌<◌, List, [], Some, None, Option, sym, refl, ap, ◌∙◌, add-one, arith}
use mathlib.Core.Path.{subst⁻¹}
use Rattle.std.specs.List.{AllByRecursion}
use Rattle.std.proofs.ByRecursion.{All-push}
use Rattle.grammar.specs.declared.rule.Rule.{Rule}
use Rattle.grammar.specs.Grammars.{Meaning, Shown}
use Rattle.chart.specs.Gathers.{Named, pushed, rules_below, Gathers}
use Rattle.chart.proofs.Rows.{names_of}

module _ (m : Meaning) where
  below_none : rules_below m 0 ≡ []
  unfolding rules_below
  below_none = refl

  below_more : (k : ℕ) → rules_below m (k + 1) ≡ pushed (rules_below m k) (m.rule k)
  unfolding rules_below
  below_more k = ap (rules_below m) (add-one k)

  pub gathers_none : (rs : List Rule) (at : ℕ) → rs ≡ [] → at ≡ 0 → Gathers m rs at
  gathers_none rs at rules next = record {
    below = omega arith;
    rules = rules ∙ sym (ap (rules_below m) next ∙ below_none);
  }

  -- one number more
  pub gathers_more : (rs rs' : List Rule) (at at' : ℕ) → rs' ≡ pushed rs (m.rule at) → at' ≡ at + 1 → at < m.bound → Gathers m rs at → Gathers m rs' at'
  gathers_more rs rs' at at' rules next within before = record {
    below = omega arith;
    rules = rules ∙ ap (λ l. pushed l (m.rule at)) before.rules ∙ sym (ap (rules_below m) next ∙ below_more at);
  }

  -- the rules of a grammar name only nonterminals that it has
  named_more : Shown m → (k : ℕ) (rules : List Rule) (o : Option Rule) → m.rule k ≡ o → AllByRecursion (Named m.nonterminals) rules → AllByRecursion (Named m.nonterminals) (pushed rules o)
  named_more shown k rules None e all = all
  named_more shown k rules (Some r) e all =
      let sound = shown.rules k r e in
      All-push (Named m.nonterminals) rules r all (sound.from, names_of m r.expansion sound.into)

  named_below : Shown m → (k : ℕ) → AllByRecursion (Named m.nonterminals) (rules_below m k)
  unfolding rules_below
  named_below shown zero = tt
  named_below shown (suc k) = named_more shown k (rules_below m k) (m.rule k) refl (named_below shown k)

  pub named_at_hand : Shown m → (rs : List Rule) (next : ℕ) {n : ℕ} → n ≡ m.nonterminals → Gathers m rs next → AllByRecursion (Named n) rs
  named_at_hand shown rs next own gathers =
      subst⁻¹ (λ k. AllByRecursion (Named k) rs) own (subst⁻¹ (AllByRecursion (Named m.nonterminals)) gathers.rules (named_below shown next))
