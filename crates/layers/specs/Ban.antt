-- A grammar without some of its rules. Assumes nothing.
use Rattle.std.specs.Prelude.{◌≡◌, ℕ, Bool, false, cond, ◌||◌, List, [], ◌∷◌, ◌++◌, length, Some, None, Option, ◌==◌, nat_lt}
use Rattle.grammar.specs.declared.refusal.Refusal.{Refusal}
use Rattle.grammar.specs.declared.refusal.Refusal.TheVariants.{TooManyBans}
use Rattle.grammar.specs.Grammars.{Meaning}
use Rattle.grammar.specs.Derivations.{Tree, leaf, node}
use Rattle.automata.specs.Making.{if_refused}

-- a number stands in the list
abbrev pub among : ℕ → List ℕ → Bool
among i [] = false
among i (n ∷ ns) = i == n || among i ns

-- at most 16 numbers, repeats counted
abbrev pub add_refused : List ℕ → Option Refusal
add_refused ns = cond (nat_lt (length ns) 16) None (Some TooManyBans)

-- a number is added at the end, unless that is refused
abbrev pub added : ℕ → List ℕ → List ℕ
added number ns = if_refused (add_refused ns) ns (ns ++ (number ∷ []))

-- the rules at these numbers become none; a number may name no rule
abbrev pub ban : List ℕ → Meaning → Meaning
ban ns m = record {
  nonterminals = m.nonterminals;
  codes = m.codes;
  bound = m.bound;
  rule = λ i. cond (among i ns) None (m.rule i);
  start = m.start;
}

-- a tree without any of these numbers
abbrev pub Free : List ℕ → Tree → Type 0
Free ns (leaf i) = among i ns ≡ false
Free ns (node i l r) = (among i ns ≡ false) × Free ns l × Free ns r
