-- A small grammar, and the totals of some of its sheets: a sheet is a list of entries, each a set of codes. Assumes nothing.
use Rattle.std.specs.Prelude.{ℕ, zero, suc, List, [], ◌∷◌, Some, None, Option, ◌==◌}
use Rattle.semiring.specs.Counts.{count, capped}
use Rattle.semiring.specs.Costs.{cost, costing, none}
use Rattle.grammar.specs.declared.rule.Rule.{Rule}
use Rattle.grammar.specs.Grammars.{Meaning}
use Rattle.grammar.specs.Derivations.{EntriesFromStarts, leaf_rule, pair_rule}
use Rattle.grammar.specs.Totals.{TotalOf, weight_of, by}
use Rattle.grammar.specs.Costs.{by_cost}
use Rattle.automata.specs.Making.{counting}
use Rattle.layers.specs.Ban.{ban}
use Rattle.layers.specs.Intersection.{intersection}
use Rattle.layers.specs.Renaming.{Recorder, unread, reading, renaming}

-- 0: S to S S, cost 1; 1: S to the code 0, cost 2; 2: S to the code 1, cost 3
abbrev pub known_rule : ℕ → Option Rule
known_rule zero = Some (pair_rule 0 0 0 1 0)
known_rule (suc zero) = Some (leaf_rule 0 0 2 1)
known_rule (suc (suc zero)) = Some (leaf_rule 0 1 3 2)
known_rule (suc (suc (suc n))) = None

-- one nonterminal S, which is the start, two codes and these rules
abbrev pub G : Meaning
G = record { nonterminals = 1; codes = 2; bound = 3; rule = known_rule; start = λ A. (A == 0) }

-- three recorder codes 0, 1, 2, read as 0, 0, 1
abbrev pub known_readings : Recorder
known_readings = reading 2 1 (reading 1 0 (reading 0 0 (unread 3)))

-- the grammar m has n derivations of the entries es from its starts, and the least of their costs is c
pub record Sheet (m : Meaning) (es : List ℕ) (n c : ℕ) : Type 0 where
  pub counted : TotalOf count (EntriesFromStarts m es) (weight_of count (by (λ cost bottom. count.one)) m) (capped n)
  pub costs : TotalOf cost (EntriesFromStarts m es) (weight_of cost by_cost m) (costing c)

-- the entry {0} is 1, {1} is 2 and {0, 1} is 3
pub record KnownSheets : Type 0 where
  -- no entries
  pub nothing : Sheet G [] 0 none
  -- {0}
  pub one : Sheet G (1 ∷ []) 1 2
  -- {0} {0} {0}
  pub three : Sheet G (1 ∷ 1 ∷ 1 ∷ []) 2 8
  -- {1} {1} {1} {1}
  pub four : Sheet G (2 ∷ 2 ∷ 2 ∷ 2 ∷ []) 5 15
  -- {0, 1} {0, 1}
  pub two : Sheet G (3 ∷ 3 ∷ []) 4 5
  -- the same, with the automaton that counts the code 1 up to 1
  pub two_counted : Sheet (intersection (counting 2 1 1) G) (3 ∷ 3 ∷ []) 3 6
  -- {0, 1} {0, 1}, with rule 0 banned
  pub two_banned : Sheet (ban (0 ∷ []) G) (3 ∷ 3 ∷ []) 0 none
  -- {0, 1}, where both are read as 0
  pub renamed : Sheet (renaming known_readings G) (3 ∷ []) 2 2

-- the counts and costs of these, in their order
abbrev pub known_answers : List (ℕ × ℕ)
known_answers = (0, none) ∷ (1, 2) ∷ (2, 8) ∷ (5, 15) ∷ (4, 5) ∷ (3, 6) ∷ (0, none) ∷ (2, 2) ∷ []
