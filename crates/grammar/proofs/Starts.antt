-- The total over all starts. Assumes nothing.
use Rattle.std.proofs.Common.{◌≡◌, ℕ, ◌<◌, Bool, true, false, cond, List, refl}
use Rattle.grammar.specs.declared.rule.Rule.{Rule}
use Rattle.semiring.specs.Semirings.{Operations, Laws}
use Rattle.grammar.specs.Grammars.{Meaning, Shown}
use Rattle.grammar.specs.Derivations.{Tree, DerivesEntries, EntriesFromStarts}
use Rattle.grammar.specs.Totals.{TotalOf, weight_of}
use Rattle.grammar.specs.Spans.{start_sum}
use Rattle.grammar.proofs.Truths.{not_both}
use Rattle.grammar.proofs.Closure.{total_none, total_same, total_below}
use Rattle.grammar.proofs.Shapes.{root_rule}

-- a tree is a derivation from one nonterminal only
pub one_start : (m : Meaning) (A B : ℕ) (es es' : List ℕ) (t : Tree) → DerivesEntries m A es t → DerivesEntries m B es' t → A ≡ B
one_start m A B es es' t d e =
    let g = root_rule m A d.word t d.derives in
    let h = root_rule m B e.word t e.derives in
    let there = g.1 in let there' = h.1 in let from = g.2 in let from' = h.2 in
    cc

module _ {S : Type 0} {s : Operations S} (laws : Laws s) (weigh : Rule → S) (m : Meaning) (shown : Shown m) where
  pub total_starts : (es : List ℕ) (cell : ℕ → S) → ((A : ℕ) → A < m.nonterminals → TotalOf s (DerivesEntries m A es) (weight_of s weigh m) (cell A)) → TotalOf s (EntriesFromStarts m es) (weight_of s weigh m) (start_sum s m cell)
  total_starts es cell cells =
      total_same laws (λ t h. record { from = h.0; start = h.2.0; derives = h.2.1 }) (λ t d. (d.from, shown.starts d.from d.start, (d.start, d.derives)))
      (total_below laws (λ A t. (m.start A ≡ true) × DerivesEntries m A es t) (λ A. cond (m.start A) (cell A) s.zero) m.nonterminals
      (λ A h. part A h (m.start A)) (λ A B t _ _ p q. one_start m A B es es t p.1 q.1))
    where
      part : (A : ℕ) → A < m.nonterminals → (b : Bool) → TotalOf s (λ t. (b ≡ true) × DerivesEntries m A es t) (weight_of s weigh m) (cond b (cell A) s.zero)
      part A h true = total_same laws (λ t d. (refl, d)) (λ t d. d.1) (cells A h)
      part A h false = total_none laws (weight_of s weigh m) (λ t d. not_both false d.0 refl)
