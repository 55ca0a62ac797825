-- Accepted and refused calls, in the model's words. Assumes nothing.
use Rattle.std.proofs.Common.{◌≡◌, ℕ, length, Ok, Err, Result, sym, ap, ◌∙◌, subst, MatchResult}
use Rattle.grammar.specs.declared.refusal.Refusal.{Refusal}
use Rattle.entries.specs.Lists.{Entries}
use Rattle.entries.specs.declared.call.Call.{Call}
use Rattle.entries.specs.Model.{state, Terms, verdict, replace_tests, answer, after, does, Did}
use Rattle.entries.proofs.Listing.{size}

-- an accepted call took e to f
pub accepted : (t : Terms) (e f : Entries) (call : Call) → answer t (state e) call ≡ Ok tt → state f ≡ does (state e) call → f.nonterminals ≡ e.nonterminals → Did t e call (Ok tt) f
accepted t e f call said moved own = record { answered = sym said; moved = moved ∙ sym (ap (λ r. after r (state e) call) said); own = own }

-- the state after a call, by its answer
pub did_move : {t : Terms} {e f : Entries} {call : Call} {r : Result (Unit {0}) Refusal} → Did t e call r f → state f ≡ after r (state e) call
did_move {e = e} {call = call} did = did.moved ∙ ap (λ r. after r (state e) call) (sym did.answered)

-- a refused call left e as it was
pub refused : (t : Terms) (e : Entries) (call : Call) (why : Refusal) → answer t (state e) call ≡ Err why → Did t e call (Err why) e
refused t e call why said = record { answered = sym said; moved = sym (ap (λ r. after r (state e) call) said); own = λ i. e.nonterminals }

-- what a call did where it was refused
pub on_err : {T : Type 0} (P : T → Type 0) (Q : Refusal → Type 0) (r : Result T Refusal) (why : Refusal) → r ≡ Err why → Q why → MatchResult r P Q
on_err P Q r why is q = subst (λ x. MatchResult x P Q) (sym is) q

-- the tests of an entry at a place look at how many entries are in use
pub replace_verdict : (t : Terms) (e : Entries) (k bits : ℕ) (r : Result (Unit {0}) Refusal) → verdict (replace_tests t (length e.list.items) e.trial k bits) ≡ r → verdict (replace_tests t (length (state e).entries) e.trial k bits) ≡ r
replace_verdict t e k bits r said = ap (λ n. verdict (replace_tests t n e.trial k bits)) (size e) ∙ said
