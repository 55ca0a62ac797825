-- What the layers keep of what the grammar below shows. Assumes nothing.
use Rattle.std.specs.Prelude.{◌≡◌, ℕ, Bool, true, false, cond, List, Some, None, Option, refl}
use Rattle.std.proofs.Common.{subst, arith}
use Rattle.grammar.specs.declared.rule.Rule.{Rule}
use Rattle.grammar.specs.declared.rule.Expansion.{Expansion}
use Rattle.grammar.specs.declared.rule.Expansion.TheVariants.{Pair, Leaf}
use Rattle.grammar.specs.Grammars.{Meaning, Shown, ShownRule, Declared}
use Rattle.layers.specs.Reversal.{reversal, turned, turned_any, swapped}
use Rattle.layers.specs.Ban.{ban, among}

-- ---- reversal

names_swapped : (m : Meaning) (e : Expansion) → Declared m e → Declared (reversal m) (swapped e)
names_swapped m (Pair left right) n = (n.1, n.0)
names_swapped m (Leaf code) n = n

fair_turned : (m : Meaning) (i : ℕ) (r : Rule) → ShownRule m i r → ShownRule (reversal m) i (turned r)
fair_turned m i r f = record {
  numbered = f.numbered;
  from = f.from;
  into = names_swapped m r.expansion f.into;
  cheap = f.cheap;
}

rule_turned : (m : Meaning) → Shown m → (i : ℕ) (o : Option Rule) → m.rule i ≡ o → (r : Rule) → turned_any o ≡ Some r → ShownRule (reversal m) i r
rule_turned m s i (Some b) e r p = let q : turned b ≡ r = cc in subst (ShownRule (reversal m) i) q (fair_turned m i b (s.rules i b e))
rule_turned m s i None e r p = let z : ◌≡◌ {A = ℕ} 0 1 = cc in absurd (omega arith)

pub reversal_shown : (m : Meaning) → Shown m → Shown (reversal m)
reversal_shown m s = record {
  some = s.some;
  few = s.few;
  readable = s.readable;
  coded = s.coded;
  bounded = s.bounded;
  rules = λ i r e. rule_turned m s i (m.rule i) refl r e;
  starts = s.starts;
}

-- ---- ban

rule_ban : (ns : List ℕ) (m : Meaning) → Shown m → (i : ℕ) (b : Bool) (r : Rule) → cond b None (m.rule i) ≡ Some r → ShownRule (ban ns m) i r
rule_ban ns m s i true r p = let z : ◌≡◌ {A = ℕ} 0 1 = cc in absurd (omega arith)
rule_ban ns m s i false r p =
    let f = s.rules i r p in
    record { numbered = f.numbered; from = f.from; into = names r.expansion f.into; cheap = f.cheap }
  where
    names : (e : Expansion) → Declared m e → Declared (ban ns m) e
    names (Pair left right) n = n
    names (Leaf code) n = n

pub ban_shown : (ns : List ℕ) (m : Meaning) → Shown m → Shown (ban ns m)
ban_shown ns m s = record {
  some = s.some;
  few = s.few;
  readable = s.readable;
  coded = s.coded;
  bounded = s.bounded;
  rules = λ i r e. rule_ban ns m s i (among i ns) r e;
  starts = s.starts;
}
