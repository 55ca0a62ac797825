-- The sum over rules and cuts for a list of entries, from what stands for its first parts and its rests. Assumes nothing.
use Rattle.std.proofs.Common.{ℕ, suc, ◌-◌, cond, eqb, List, [], ◌∷◌, length, Some, None, Option}
use Rattle.semiring.specs.Semirings.{Operations, sum_below}
use Rattle.grammar.specs.declared.rule.Expansion.{Expansion}
use Rattle.grammar.specs.declared.rule.Expansion.TheVariants.{Pair, Leaf}
use Rattle.grammar.specs.declared.rule.Rule.{Rule}
use Rattle.grammar.specs.Grammars.{Meaning}
use Rattle.grammar.specs.Derivations.{has}

-- what a leaf rule to c adds over the entries es: its weight, if es is one entry that has c
abbrev pub leaf_term : {S : Type 0} → Operations S → S → ℕ → List ℕ → S
leaf_term s weight c [] = s.zero
leaf_term s weight c (e ∷ []) = cond (has e c) weight s.zero
leaf_term s weight c (e ∷ e' ∷ es) = s.zero

-- what a rule adds over the entries es, where `left k B` stands for B over the first k entries and `right k C` for C over the rest
abbrev pub expansion_term : {S : Type 0} → Operations S → S → (ℕ → ℕ → S) → (ℕ → ℕ → S) → List ℕ → Expansion → S
expansion_term s weight left right es (Leaf c) = leaf_term s weight c es
expansion_term s weight left right es (Pair B C) = sum_below s (length es - 1) (λ j. s.times weight (s.times (left (suc j) B) (right (suc j) C)))

-- the same for what stands at a rule number, if it rewrites A
abbrev pub rule_term : {S : Type 0} → Operations S → (Rule → S) → ℕ → (ℕ → ℕ → S) → (ℕ → ℕ → S) → List ℕ → Option Rule → S
rule_term s weigh A left right es None = s.zero
rule_term s weigh A left right es (Some r) = cond (eqb r.lhs A) (expansion_term s (weigh r) left right es r.expansion) s.zero

-- the sum over all rules and cuts
abbrev pub cell_sum : {S : Type 0} → Operations S → (Rule → S) → Meaning → ℕ → (ℕ → ℕ → S) → (ℕ → ℕ → S) → List ℕ → S
cell_sum s weigh m A left right es = sum_below s m.bound (λ i. rule_term s weigh A left right es (m.rule i))
