-- The rules of the known grammar under any number of nonterminals and any bound. Assumes nothing.
use Rattle.std.specs.Prelude.{◌≡◌, ℕ, zero, suc, ◌≤◌, Some, ◌==◌}
use Rattle.std.proofs.Common.{subst, arith, eqb-true}
use Rattle.grammar.specs.declared.rule.Rule.{Rule}
use Rattle.grammar.specs.Grammars.{Meaning, Shown, ShownRule}
use Rattle.automata.specs.Laws.Truths.{no_some, some_is}
use Rattle.layers.specs.Known.{known_rule}

abbrev pub wide : ℕ → ℕ → Meaning
wide n bound = record { nonterminals = n; codes = 2; bound = bound; rule = known_rule; start = λ A. (A == 0) }

module _ (n bound : ℕ) (some : 1 ≤ n) (few : n ≤ 4096) (enough : 3 ≤ bound) (bounded : bound ≤ 16777216) where
  by_some : (i : ℕ) (x r : Rule) → ShownRule (wide n bound) i x → Some x ≡ Some r → ShownRule (wide n bound) i r
  by_some i x r h e = subst (ShownRule (wide n bound) i) (some_is e) h

  rule_shown : (i : ℕ) (r : Rule) → known_rule i ≡ Some r → ShownRule (wide n bound) i r
  rule_shown zero r e = by_some 0 _ r (record { numbered = omega arith; from = omega arith; into = (omega arith, omega arith); cheap = omega arith }) e
  rule_shown (suc zero) r e = by_some 1 _ r (record { numbered = omega arith; from = omega arith; into = omega arith; cheap = omega arith }) e
  rule_shown (suc (suc zero)) r e = by_some 2 _ r (record { numbered = omega arith; from = omega arith; into = omega arith; cheap = omega arith }) e
  rule_shown (suc (suc (suc i))) r e = absurd (no_some r e)

  pub wide_shown : Shown (wide n bound)
  wide_shown = record {
    some = some;
    few = few;
    readable = omega arith;
    coded = omega arith;
    bounded = bounded;
    rules = rule_shown;
    starts = λ A e. let h = eqb-true A 0 e in omega arith;
  }
