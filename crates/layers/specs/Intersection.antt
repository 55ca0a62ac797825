-- A grammar crossed with an automaton: its nonterminals also say between which states their words lead. Assumes nothing.
use Rattle.std.specs.Prelude.{ℕ, ◌+◌, ◌*◌, ◌/◌, ◌%◌, ◌<◌, Bool, false, cond, ◌&&◌, Some, None, Option, ◌==◌, nat_le, nat_lt}
use Rattle.grammar.specs.declared.rule.Rule.{Rule}
use Rattle.grammar.specs.declared.rule.Expansion.{Expansion}
use Rattle.grammar.specs.declared.rule.Expansion.TheVariants.{Pair, Leaf}
use Rattle.grammar.specs.declared.refusal.Refusal.{Refusal}
use Rattle.grammar.specs.declared.refusal.Refusal.TheVariants.{FewerCodes, TooLarge}
use Rattle.grammar.specs.Grammars.{Meaning}
use Rattle.automata.specs.Machines.{Machine}
use Rattle.automata.specs.Making.{if_refused}

-- the number of the nonterminal (p, A, r), with Q states
abbrev pub crossed : ℕ → ℕ → ℕ → ℕ → ℕ
crossed Q A p r = (A * Q + p) * Q + r

-- the number of below rule i with the states p, q, r
abbrev pub crossed_number : ℕ → ℕ → ℕ → ℕ → ℕ → ℕ
crossed_number Q i p q r = ((i * Q + p) * Q + q) * Q + r

-- the cube of the number of states: dividing by it takes a rule's number to that of the rule below
abbrev pub cube : ℕ → ℕ
cube Q = Q * Q * Q

-- it is this number
abbrev pub is : Option ℕ → ℕ → Bool
is (Some s) r = s == r
is None r = false

-- a rule with the states p, q, r: A to B C becomes (p,A,r) to (p,B,q) (q,C,r); A to a code exists only at q = 0 and r the step from p on the code
abbrev pub crossed_rule : Machine → ℕ → ℕ → ℕ → Rule → Expansion → Option Rule
crossed_rule k p q r rule (Pair left right) = Some (record {
  lhs = crossed k.states rule.lhs p r;
  expansion = Pair (crossed k.states left p q) (crossed k.states right q r);
  cost = rule.cost;
  bottom = rule.bottom;
})
crossed_rule k p q r rule (Leaf code) = cond (q == 0 && is (k.step p code) r) (Some (record {
  lhs = crossed k.states rule.lhs p r;
  expansion = Leaf code;
  cost = rule.cost;
  bottom = rule.bottom;
})) None

-- the same for what stands at a rule number below
abbrev pub crossed_any : Machine → ℕ → ℕ → ℕ → Option Rule → Option Rule
crossed_any k p q r (Some rule) = crossed_rule k p q r rule rule.expansion
crossed_any k p q r None = None

-- the grammar crossed with the automaton; a start is (start state, start symbol, accepting state)
abbrev pub crossing : Machine → Meaning → Meaning
crossing k m = record {
  nonterminals = m.nonterminals * k.states * k.states;
  codes = m.codes;
  bound = m.bound * k.states * k.states * k.states;
  rule = λ n. crossed_any k (n / k.states / k.states % k.states) (n / k.states % k.states) (n % k.states) (m.rule (n / k.states / k.states / k.states));
  start = λ x. m.start (x / k.states / k.states) && (x / k.states % k.states == k.start && k.accepts (x % k.states));
}

-- what a layer means that was refused: one nonterminal, one code, no rule, no start
abbrev pub blank : Meaning
blank = record { nonterminals = 1; codes = 1; bound = 0; rule = λ i. None; start = λ A. false }

-- the tests of laying, in their order
abbrev pub intersection_refused : Machine → Meaning → Option Refusal
intersection_refused k m =
    cond (nat_lt k.codes m.codes) (Some FewerCodes)
    (cond (nat_le (crossing k m).nonterminals 4096 && nat_le (crossing k m).bound 16777216) None (Some TooLarge))

-- the layer: blank if it was refused
abbrev pub intersection : Machine → Meaning → Meaning
intersection k m = if_refused (intersection_refused k m) blank (crossing k m)

-- the nonterminals of an expansion are below 4,096
abbrev pub Small : Expansion → Type 0
Small (Pair left right) = (left < 4096) × (right < 4096)
Small (Leaf code) = Unit {0}
