-- A grammar with every nonterminal a start. Assumes nothing.
use Rattle.std.specs.Prelude.{◌≡◌, ℕ, ◌<◌, Bool, true, false, T, nat_lt}
use Rattle.std.proofs.Common.{arith, ltb→lt}
use Rattle.grammar.specs.Grammars.{Meaning, Shown}

-- as m, but each nonterminal is a start
abbrev pub every_start : Meaning → Meaning
every_start m = record { nonterminals = m.nonterminals; codes = m.codes; bound = m.bound; rule = m.rule; start = λ A. nat_lt A m.nonterminals }

truth : (b : Bool) → b ≡ true → T b
truth true e = tt
truth false e = let z : ◌≡◌ {A = ℕ} 0 1 = cc in absurd (let k : ⊥ = omega arith in k)

-- it shows what every grammar must show
pub every_start_shown : (m : Meaning) → Shown m → Shown (every_start m)
every_start_shown m s = record {
  some = s.some;
  few = s.few;
  readable = s.readable;
  coded = s.coded;
  bounded = s.bounded;
  rules = λ i r there. (let h = s.rules i r there in record { numbered = h.numbered; from = h.from; into = h.into; cheap = h.cheap });
  starts = λ A start. ltb→lt A m.nonterminals (truth _ start);
}
