-- What a table grammar means, and which rows it may hold. Assumes nothing.
use Rattle.std.specs.Prelude.{ℕ, suc, Bool, true, ◌&&◌, List, [], ◌∷◌, length, Some, None, Option, ◌==◌, nat_le, nat_lt, slice_get}
use Rattle.grammar.specs.declared.rule.Rule.{Rule}
use Rattle.grammar.specs.declared.rule.Expansion.{Expansion}
use Rattle.grammar.specs.declared.rule.Expansion.TheVariants.{Pair, Leaf}
use Rattle.grammar.specs.Grammars.{Meaning}

-- a rule as it is added: the nonterminal that it rewrites, what into, and its cost
pub record Added : Type 0 where
  pub lhs : ℕ
  pub expansion : Expansion
  pub cost : ℕ

-- the rule with a number: its bottom number is its own
abbrev pub numbered : ℕ → Added → Rule
numbered i a = record { lhs = a.lhs; expansion = a.expansion; cost = a.cost; bottom = i }

-- what was added, if anything was, as the rule with the number i
abbrev pub rule_of : ℕ → Option Added → Option Rule
rule_of i None = None
rule_of i (Some a) = Some (numbered i a)

-- the grammar of N = n nonterminals and T = t codes whose rule i is the i-th that was added, with bottom number i, and none from their count on; it has one start
abbrev pub table_meaning : ℕ → ℕ → ℕ → List Added → Meaning
table_meaning n t start added = record {
  nonterminals = n;
  codes = t;
  bound = length added;
  rule = λ i. rule_of i (slice_get added i);
  start = λ A. (A == start);
}

-- an expansion names only nonterminals below n and codes below t
abbrev pub names : ℕ → ℕ → Expansion → Bool
names n t (Pair left right) = nat_lt left n && nat_lt right n
names n t (Leaf code) = nat_lt code t

-- a rule of lhs into an expansion names only what is declared
abbrev pub is_declared : ℕ → ℕ → ℕ → Expansion → Bool
is_declared n t lhs expansion = nat_lt lhs n && names n t expansion

-- the rule that a row holds, as it was added
abbrev pub as_added : Rule → Added
as_added r = record { lhs = r.lhs; expansion = r.expansion; cost = r.cost }

-- row i holds a rule that names only what is declared, and its bottom number is i
abbrev pub fine : ℕ → ℕ → ℕ → Rule → Bool
fine n t i r = is_declared n t r.lhs r.expansion && (nat_le r.cost 65535 && r.bottom == i)

-- so do all rows, the first of them with the number i
abbrev pub all_fine : ℕ → ℕ → ℕ → List Rule → Bool
all_fine n t i [] = true
all_fine n t i (r ∷ rows) = fine n t i r && all_fine n t (suc i) rows
