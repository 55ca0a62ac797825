-- Matches in general: what passes through weighs the same, and matches can be put together. Assumes nothing.
use Rattle.std.proofs.Common.{◌≡◌, ℕ, List, Some, sym, refl, ap, ◌∙◌, ap₂}
use Rattle.semiring.specs.Semirings.{Operations, Laws}
use Rattle.grammar.specs.declared.rule.Rule.{Rule}
use Rattle.grammar.specs.Grammars.{Meaning}
use Rattle.grammar.specs.Derivations.{Tree, leaf, node, Derives}
use Rattle.grammar.specs.Totals.{weighed, weight_of, by}
use Rattle.grammar.proofs.Closure.{total_image}
use Rattle.layers.specs.Matching.{OneForOne, SameWeight, Stems, PassesThrough, renumbered}

-- ---- weights

module _ {S : Type 0} (s : Operations S) (weight : ℕ → ℕ → S) (above below : Meaning) where
  stem_weighs : (n i : ℕ) (r : Rule) → above.rule n ≡ Some r → Stems below i r → weighed s (by weight) (above.rule n) ≡ weighed s (by weight) (below.rule i)
  stem_weighs n i r e stem =
      ap (weighed s (by weight)) e ∙ ap₂ weight stem.cost stem.bottom ∙ sym (ap (weighed s (by weight)) stem.there)

  pub passing_weighs : (f : ℕ → ℕ) → PassesThrough above below f → (A : ℕ) (w : List ℕ) (t : Tree) → Derives above A w t → weight_of s (by weight) above t ≡ weight_of s (by weight) below (renumbered f t)
  passing_weighs f passes A w (leaf i) d = stem_weighs i (f i) _ d.rule (passes i _ d.rule)
  passing_weighs f passes A w (node i l r) d =
      ap₂ s.times (stem_weighs i (f i) _ d.rule (passes i _ d.rule))
      (ap₂ s.times (passing_weighs f passes d.left d.first l d.on_left) (passing_weighs f passes d.right d.rest r d.on_right))

-- what matches one for one, each at equal weight, has the same total
pub same_weight : {S : Type 0} {s : Operations S} → Laws s → {above below : Meaning} {Above Below : Tree → Type 0} {down : Tree → Tree} → OneForOne Above Below down
    → ((weight : ℕ → ℕ → S) (t : Tree) → Above t → weight_of s (by weight) above t ≡ weight_of s (by weight) below (down t)) → SameWeight s above below Above Below down
same_weight laws {down = down} one each = record {
  each = each;
  total = λ weight v. total_image laws down one.into one.apart (λ t b. let h = one.onto t b in (h.0, h.1, sym h.2)) (each weight);
}

-- ---- renumbering

pub renumbered_same : (t : Tree) → renumbered (λ n. n) t ≡ t
renumbered_same (leaf i) = refl
renumbered_same (node i l r) = ap₂ (node i) (renumbered_same l) (renumbered_same r)

pub renumbered_twice : (f g : ℕ → ℕ) (t : Tree) → renumbered (λ n. g (f n)) t ≡ renumbered g (renumbered f t)
renumbered_twice f g (leaf i) = refl
renumbered_twice f g (node i l r) = ap₂ (node (g (f i))) (renumbered_twice f g l) (renumbered_twice f g r)

pub passes_twice : (a b c : Meaning) (f g : ℕ → ℕ) → PassesThrough a b f → PassesThrough b c g → PassesThrough a c (λ n. g (f n))
passes_twice a b c f g p q n r e =
    let h = p n r e in
    let k = q (f n) h.rule h.there in
    record { rule = k.rule; there = k.there; cost = h.cost ∙ k.cost; bottom = h.bottom ∙ k.bottom }

-- ---- matches put together

pub composed : {A B C : Tree → Type 0} {f g : Tree → Tree} → OneForOne A B f → OneForOne B C g → OneForOne A C (λ t. g (f t))
composed {f = f} {g = g} p q = record {
  into = λ t a. q.into (f t) (p.into t a);
  apart = λ s t a b e. p.apart s t a b (q.apart (f s) (f t) (p.into s a) (p.into t b) e);
  onto = λ t c. let y = q.onto t c in let x = p.onto y.0 y.1 in (x.0, x.1, ap g x.2 ∙ y.2);
}
