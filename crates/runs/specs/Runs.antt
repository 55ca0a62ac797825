-- What a list of calls makes of a chart's entries and mark, and what each call is answered. Assumes nothing.
use Rattle.std.specs.Prelude.{◌≡◌, ℕ, ◌<◌, ◌≤◌, List, [], ◌∷◌, length, Ok, Result, slice_index_or}
use Rattle.grammar.specs.declared.refusal.Refusal.{Refusal}
use Rattle.entries.specs.declared.call.Call.{Call}
use Rattle.entries.specs.Model.{Terms, State, answer, step}

-- the state after all calls of a list
abbrev pub run : Terms → State → List Call → State
run t s [] = s
run t s (c ∷ cs) = run t (step t s c) cs

-- the answer to each call of a list
abbrev pub answers : Terms → State → List Call → List (Result (Unit {0}) Refusal)
answers t s [] = []
answers t s (c ∷ cs) = answer t s c ∷ answers t (step t s c) cs

-- a list of calls took a state to another, and wrote the answer to each call, as far as there is room, into `old`, which made it `new`
pub record RanAll (t : Terms) (from : State) (calls : List Call) (to : State) (old new : List (Result (Unit {0}) Refusal)) : Type 0 where
  pub after : to ≡ run t from calls
  pub answered : (k : ℕ) → k < length calls → k < length old → slice_index_or new k (Ok tt) ≡ slice_index_or (answers t from calls) k (Ok tt)
  pub beyond : (k : ℕ) → length calls ≤ k → slice_index_or new k (Ok tt) ≡ slice_index_or old k (Ok tt)
