-- What a grammar means, and what every grammar must show. Assumes nothing.
use Rattle.std.specs.Prelude.{◌≡◌, ℕ, ◌<◌, ◌≤◌, Bool, true, Some, Option}
use Rattle.grammar.specs.declared.rule.Rule.{Rule}
use Rattle.grammar.specs.declared.rule.Expansion.{Expansion}
use Rattle.grammar.specs.declared.rule.Expansion.TheVariants.{Pair, Leaf}

-- the number N of nonterminals, the number T of codes (terminals), the bound R on rule numbers, the rule or none at each number, and which nonterminals are starts
pub record Meaning : Type 0 where
  pub nonterminals : ℕ
  pub codes : ℕ
  pub bound : ℕ
  pub rule : ℕ → Option Rule
  pub start : ℕ → Bool

-- an expansion names only what is declared
abbrev pub Declared : Meaning → Expansion → Type 0
Declared m (Pair left right) = (left < m.nonterminals) × (right < m.nonterminals)
Declared m (Leaf code) = code < m.codes

-- what every grammar must show of the rule r at the number i
pub record ShownRule (m : Meaning) (i : ℕ) (r : Rule) : Type 0 where
  pub numbered : i < m.bound
  pub from : r.lhs < m.nonterminals
  pub into : Declared m r.expansion
  pub cheap : r.cost ≤ 65535

-- what every grammar must show
pub record Shown (m : Meaning) : Type 0 where
  pub some : 1 ≤ m.nonterminals
  pub few : m.nonterminals ≤ 4096
  pub readable : 1 ≤ m.codes
  pub coded : m.codes ≤ 32
  pub bounded : m.bound ≤ 16777216
  pub rules : (i : ℕ) (r : Rule) → m.rule i ≡ Some r → ShownRule m i r
  pub starts : (A : ℕ) → m.start A ≡ true → A < m.nonterminals
