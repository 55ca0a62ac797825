-- What a reversed grammar derives. Assumes nothing.
use Rattle.std.proofs.Common.{◌≡◌, ℕ, List, reverse, Some, None, Option, sym, refl, ap, ◌∙◌, subst, ap₂}
use mathlib.Core.List.{reverse-append, reverse-reverse}
use Rattle.semiring.specs.Semirings.{Operations, Commutes}
use Rattle.grammar.specs.declared.rule.Rule.{Rule}
use Rattle.grammar.specs.declared.rule.Expansion.{Expansion}
use Rattle.grammar.specs.declared.rule.Expansion.TheVariants.{Pair, Leaf}
use Rattle.grammar.specs.Grammars.{Meaning}
use Rattle.grammar.specs.Derivations.{Tree, leaf, node, Derives}
use Rattle.grammar.specs.Totals.{weighed, weight_of, by}
use Rattle.layers.specs.Reversal.{reversal, turned, turned_any, swapped, mirror}
use Rattle.layers.specs.Matching.{OneForOne, PassesThrough}
use Rattle.layers.specs.Promises.{ReversalMatches}

swapped_twice : (e : Expansion) → swapped (swapped e) ≡ e
swapped_twice (Pair left right) = refl
swapped_twice (Leaf code) = refl

turned_twice : (r : Rule) → turned (turned r) ≡ r
turned_twice r = λ i. record { lhs = r.lhs; expansion = swapped_twice r.expansion i; cost = r.cost; bottom = r.bottom }

any_twice : (o : Option Rule) → turned_any (turned_any o) ≡ o
any_twice (Some r) = ap Some (turned_twice r)
any_twice None = refl

reversal_twice : (m : Meaning) → reversal (reversal m) ≡ m
reversal_twice m = λ i. record {
  nonterminals = m.nonterminals;
  codes = m.codes;
  bound = m.bound;
  rule = λ n. any_twice (m.rule n) i;
  start = m.start;
}

mirror_twice : (t : Tree) → mirror (mirror t) ≡ t
mirror_twice (leaf i) = refl
mirror_twice (node i l r) = ap₂ (node i) (mirror_twice l) (mirror_twice r)

-- a rule above gives the one below
back : (o : Option Rule) (r : Rule) → turned_any o ≡ Some r → o ≡ Some (turned r)
back o r e = sym (any_twice o) ∙ ap turned_any e

into : (m : Meaning) (a : ℕ) (w : List ℕ) (t : Tree) → Derives (reversal m) a w t → Derives m a (reverse w) (mirror t)
into m a w (leaf i) d = record {
  code = d.code;
  cost = d.cost;
  bottom = d.bottom;
  rule = back (m.rule i) _ d.rule;
  word = ap reverse d.word;
}
into m a w (node i l r) d = record {
  left = d.right;
  right = d.left;
  cost = d.cost;
  bottom = d.bottom;
  first = reverse d.rest;
  rest = reverse d.first;
  rule = back (m.rule i) _ d.rule;
  word = ap reverse d.word ∙ reverse-append d.first d.rest;
  on_left = into m d.right d.rest r d.on_right;
  on_right = into m d.left d.first l d.on_left;
}

-- and a derivation below comes from one above
from : (m : Meaning) (a : ℕ) (w : List ℕ) (t : Tree) → Derives m a (reverse w) t → Derives (reversal m) a w (mirror t)
from m a w t d =
    let e : Derives (reversal (reversal m)) a (reverse w) t = subst (λ (n : Meaning). Derives n a (reverse w) t) (sym (reversal_twice m)) d in
    subst (λ (u : List ℕ). Derives (reversal m) a u (mirror t)) (reverse-reverse w) (into (reversal m) a (reverse w) t e)

apart : (s t : Tree) → mirror s ≡ mirror t → s ≡ t
apart s t e = sym (mirror_twice s) ∙ ap mirror e ∙ mirror_twice t

pub reversal_matches : (m : Meaning) → ReversalMatches OneForOne m (reversal m)
reversal_matches m = record {
  from_each = λ a w. record {
    into = into m a w;
    apart = λ s t d e. apart s t;
    onto = λ t d. (mirror t, from m a w t d, mirror_twice t);
  };
  from_starts = λ w. record {
    into = λ t d. record { from = d.from; start = d.start; derives = into m d.from w t d.derives };
    apart = λ s t d e. apart s t;
    onto = λ t d. (mirror t, record { from = d.from; start = d.start; derives = from m d.from w t d.derives }, mirror_twice t);
  };
}

pub reversal_passes : (m : Meaning) → PassesThrough (reversal m) m (λ n. n)
reversal_passes m n r e = record { rule = turned r; there = back (m.rule n) r e; cost = refl; bottom = refl }

module _ {S : Type 0} (s : Operations S) (weight : ℕ → ℕ → S) where
  at_turned : (o : Option Rule) → weighed s (by weight) (turned_any o) ≡ weighed s (by weight) o
  at_turned (Some r) = refl
  at_turned None = refl

  -- where the product commutes, a mirrored derivation weighs the same
  pub reversal_weighs : Commutes s → (m : Meaning) (t : Tree) → weight_of s (by weight) (reversal m) t ≡ weight_of s (by weight) m (mirror t)
  reversal_weighs commutes m (leaf i) = at_turned (m.rule i)
  reversal_weighs commutes m (node i l r) =
      ap₂ s.times (at_turned (m.rule i))
      (ap₂ s.times (reversal_weighs commutes m l) (reversal_weighs commutes m r) ∙ commutes _ _)
