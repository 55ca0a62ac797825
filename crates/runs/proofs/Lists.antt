-- One call more of a list. Assumes nothing.
use Rattle.std.proofs.Common.{◌≡◌, ℕ, zero, suc, ◌+◌, ◌<◌, ◌≤◌, ◌≢◌, List, [], ◌∷◌, length, get_or, take, Ok, Result, refl, ◌∙◌, le_of_suc-le-suc, not-suc-le-zero, add-one, arith, below_more}
use Rattle.grammar.specs.declared.refusal.Refusal.{Refusal}
use Rattle.entries.specs.declared.call.Call.{Call}
use Rattle.entries.specs.Model.{Terms, State, answer, step}
use Rattle.runs.specs.Runs.{run, answers}

run_suc : (t : Terms) (s : State) (cs : List Call) (i : ℕ) (d : Call) → i < length cs → run t s (take (suc i) cs) ≡ step t (run t s (take i cs)) (get_or cs i d)
run_suc t s [] i d h = absurd (not-suc-le-zero h)
run_suc t s (c ∷ cs) zero d h = refl
run_suc t s (c ∷ cs) (suc i) d h = run_suc t (step t s c) cs i d (le_of_suc-le-suc h)

pub run_more : (t : Terms) (s : State) (cs : List Call) (i : ℕ) (d : Call) → i < length cs → run t s (take (i + 1) cs) ≡ step t (run t s (take i cs)) (get_or cs i d)
run_more t s cs i d h = rw add-one (run_suc t s cs i d h)

pub answers_at : (t : Terms) (s : State) (cs : List Call) (i : ℕ) (d : Call) → i < length cs → get_or (answers t s cs) i (Ok tt) ≡ answer t (run t s (take i cs)) (get_or cs i d)
answers_at t s [] i d h = absurd (not-suc-le-zero h)
answers_at t s (c ∷ cs) zero d h = refl
answers_at t s (c ∷ cs) (suc i) d h = answers_at t (step t s c) cs i d (le_of_suc-le-suc h)

-- the answer at i is written, where there is room, and the others stay
module _ (model old new : List (Result (Unit {0}) Refusal)) (i : ℕ) (rest : (k : ℕ) → k ≢ i → get_or new k (Ok tt) ≡ get_or old k (Ok tt)) where
  pub written : (n : ℕ) → ((k : ℕ) → k < i → k < n → get_or old k (Ok tt) ≡ get_or model k (Ok tt)) → (i < n → get_or new i (Ok tt) ≡ get_or model i (Ok tt))
      → (k : ℕ) → k < i + 1 → k < n → get_or new k (Ok tt) ≡ get_or model k (Ok tt)
  written n before there =
      below_more (λ k. k < n → get_or new k (Ok tt) ≡ get_or model k (Ok tt)) i
      (λ k lt inside. let ne : k ≢ i = omega arith in rest k ne ∙ before k lt inside)
      there

  pub kept : (start : List (Result (Unit {0}) Refusal)) → ((k : ℕ) → i ≤ k → get_or old k (Ok tt) ≡ get_or start k (Ok tt)) → (k : ℕ) → i + 1 ≤ k → get_or new k (Ok tt) ≡ get_or start k (Ok tt)
  kept start h k le = let ne : k ≢ i = omega arith in rest k ne ∙ h k (omega arith)
