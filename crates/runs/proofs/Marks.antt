-- The mark after each call. Assumes nothing.
use Rattle.std.proofs.Common.{◌≡◌, ℕ, Bool, true, false, List, length, Ok, Err, Result, refl, ap, ◌∙◌, arith}
use Rattle.semiring.specs.Semirings.{Operations}
use Rattle.grammar.specs.Grammars.{Meaning}
use Rattle.grammar.specs.declared.refusal.Refusal.{Refusal}
use Rattle.entries.specs.declared.call.Call.{Call}
use Rattle.entries.specs.declared.call.Call.TheVariants.{Clear, TakeBack, Keep, Withdraw}
use Rattle.entries.specs.Lists.{Entries}
use Rattle.entries.specs.Model.{Terms, State, state, answer, after, step, Did}
use Rattle.chart.specs.declared.chart.Chart.{Chart}
use Rattle.chart.specs.Stands.{ChartStands}
use Rattle.runs.specs.Calls.{Moved, Performed}

keep_entries_at : (t : Terms) (es : List ℕ) (b : Bool) → (step t (record { entries = es; trial = b }) Keep).entries ≡ es
keep_entries_at t es true = refl
keep_entries_at t es false = refl

-- keep leaves the entries
pub keep_entries : (t : Terms) (s : State) → (step t s Keep).entries ≡ s.entries
keep_entries t s = keep_entries_at t s.entries s.trial

keep_mark_at : (t : Terms) (es : List ℕ) (b : Bool) → (step t (record { entries = es; trial = b }) Keep).trial ≡ false
keep_mark_at t es true = refl
keep_mark_at t es false = refl

pub keep_mark : (t : Terms) (s : State) → (step t s Keep).trial ≡ false
keep_mark t s = keep_mark_at t s.entries s.trial

withdraw_mark_at : (t : Terms) (es : List ℕ) (b : Bool) → (step t (record { entries = es; trial = b }) Withdraw).trial ≡ false
withdraw_mark_at t es true = refl
withdraw_mark_at t es false = refl

pub withdraw_mark : (t : Terms) (s : State) → (step t s Withdraw).trial ≡ false
withdraw_mark t s = withdraw_mark_at t s.entries s.trial

-- some terms: what keep, withdraw, take back and clear come to looks at none
abbrev pub no_terms : Terms
no_terms = record { own = 0; slots = 0; shown = 0; codes = 0 }

-- after keep, withdraw and clear no trial is open; take back leaves the mark
-- keep leaves the entries
pub kept_entries : {e f : Entries} {r : Result (Unit {0}) Refusal} → ((t : Terms) → Did t e Keep r f) → (state f).entries ≡ (state e).entries
kept_entries {e} did = ap (λ (s : State). s.entries) (did no_terms).moved ∙ keep_entries no_terms (state e)

pub kept_mark : {e f : Entries} {r : Result (Unit {0}) Refusal} → ((t : Terms) → Did t e Keep r f) → f.trial ≡ false
kept_mark {e} did = ap (λ (s : State). s.trial) (did no_terms).moved ∙ keep_mark no_terms (state e)

pub withdrawn_mark : {e f : Entries} {r : Result (Unit {0}) Refusal} → ((t : Terms) → Did t e Withdraw r f) → f.trial ≡ false
withdrawn_mark {e} did = ap (λ (s : State). s.trial) (did no_terms).moved ∙ withdraw_mark no_terms (state e)

pub cleared_mark : {e f : Entries} {r : Result (Unit {0}) Refusal} → ((t : Terms) → Did t e Clear r f) → f.trial ≡ false
cleared_mark {e} did = ap (λ (s : State). s.trial) (did no_terms).moved

-- what a call that writes no slot does, for a weighing and a grammar
pub performed : {S : Type 0} {g : _} {s : Operations S} {weight : ℕ → ℕ → S} {m : Meaning} {call : Call} {r : Result (Unit {0}) Refusal} {before after : Chart S g} → Moved s call r before after → Performed s weight m call r before after
performed {weight = weight} {m = m} moved = record { did = moved.did _; stands = moved.stands weight m; slots = record { own = (moved.did no_terms).own; long = ap length moved.same; named = moved.named } }

-- a chart without entries stands
pub cleared_stands : {S : Type 0} (s : Operations S) (weight : ℕ → ℕ → S) (m : Meaning) (e f : Entries) (xs : List S) → ((t : Terms) → Did t e Clear (Ok tt) f) → ChartStands s weight m f xs
cleared_stands s weight m e f xs did begin end A some fits = absurd (let none = ap (λ (s : State). length s.entries) (did no_terms).moved in omega arith)

-- the mark stays, whatever the answer
pub take_back_mark : (r : Result (Unit {0}) Refusal) (s : State) → (after r s TakeBack).trial ≡ s.trial
take_back_mark (Ok u) s = refl
take_back_mark (Err why) s = refl

pub took_back_mark : {e f : Entries} {r : Result (Unit {0}) Refusal} → ((t : Terms) → Did t e TakeBack r f) → f.trial ≡ e.trial
took_back_mark {e} did = ap (λ (s : State). s.trial) (did no_terms).moved ∙ take_back_mark (answer no_terms (state e) TakeBack) (state e)
