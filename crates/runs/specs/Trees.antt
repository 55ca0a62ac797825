-- What the tree call leaves after a list of calls, in the words of derivations alone. Assumes nothing.
use Rattle.std.specs.Prelude.{◌≡◌, ℕ, ◌-◌, ◌*◌, ◌<◌, ◌⊎◌, List, length, take, drop, IfOk, Err, Result, MatchResult}
use Rattle.grammar.specs.declared.refusal.Refusal.{Refusal}
use Rattle.grammar.specs.declared.refusal.Refusal.TheVariants.{NoDerivation, FewRecords}
use Rattle.grammar.specs.Grammars.{Meaning}
use Rattle.grammar.specs.Derivations.{Tree, EntriesFromStarts}
use Rattle.grammar.specs.Costs.{by_cost}
use Rattle.tree.specs.declared.record.Record.{Record}
use Rattle.tree.specs.Trees.{records, LeastCost, Exactly, Underivable}

-- the records are those of a derivation of the entries from a start, and every other such derivation costs at least as much
pub record CheapestRecords (m : Meaning) (es : List ℕ) (written : List Record) : Type 0 where
  pub tree : Tree
  pub are : written ≡ records m tree 0
  pub derives : EntriesFromStarts m es tree
  pub least : LeastCost by_cost m es tree

-- a tree of n entries was refused: there is no derivation, or there are fewer than 2n - 1 records
abbrev pub RefusedFor : ℕ → ℕ → Refusal → Type 0
RefusedFor n room why = (why ≡ NoDerivation) ⊎ ((why ≡ FewRecords) × (room < 2 * n - 1))

-- the tree of the entries es by the cost weighing: `old` and `new` are the records before and after, r is the answer
pub record TreeAfter (m : Meaning) (es : List ℕ) (old new : List Record) (r : Result ℕ Refusal) : Type 0 where
  pub answer : MatchResult r (λ k. k ≡ 2 * length es - 1) (RefusedFor (length es) (length old))
  pub cheapest : IfOk r (λ k. CheapestRecords m es (take k new))
  pub beyond : MatchResult r (λ k. drop k new ≡ drop k old) (λ _. new ≡ old)
  pub none : Exactly (r ≡ Err NoDerivation) (Underivable m es)
