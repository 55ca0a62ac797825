-- Every entry of a job that is taken is accepted by a chart for the job's grammar. Assumes nothing.
use Rattle.std.proofs.Common.{◌≡◌, ℕ, ◌+◌, ◌≤◌, true, false, cond, not, List, [], ◌∷◌, ◌++◌, map, length, None, Ok, Err, sym, refl, ap, ◌∙◌, subst, append_assoc, append-nil, add-zero, zero-add, arith, eq-eqb, Some, ◌*◌, leb, ltb, ltb-true}
use Rattle.std.proofs.lemmas.Bool.{not-false, not-true, and_parts}
use Rattle.std.proofs.lemmas.List.{length_push}
use Rattle.grammar.specs.declared.refusal.Refusal.TheVariants.{BadEntry, TrialOpen, NoRoom, OtherGrammar}
use Rattle.grammar.specs.Grammars.{Meaning}
use Rattle.entries.specs.declared.call.Call.TheVariants.{Append}
use Rattle.entries.specs.Spans.{triangle, full}
use Rattle.entries.specs.Model.{State, terms, verdict, entry_tests, improper, after}
use Rattle.runs.specs.Runs.{run}
use Rattle.commands.specs.declared.command.Command.{Command}
use Rattle.commands.specs.Order.{is, some, going, describing, allowed, Ordered}
use Rattle.commands.proofs.Stages.{some_push}
use Rattle.job.specs.Appending.{appended}
use Rattle.job.specs.Describing.{Described, nothing, entry_refusal, nonterminals_of, codes_of, refusal, taken, describe, Passes}
use Rattle.job.specs.Outcomes.{Takes}
use Rattle.job.specs.Reports.{accepted}
use Rattle.job.proofs.Sizes.{or_else_none, if_none}

-- each entry is accepted by a grammar of n nonterminals and t codes, after `count` others
abbrev pub Fitting : ℕ → ℕ → ℕ → List ℕ → Type 0
Fitting n t count [] = Unit {0}
Fitting n t count (b ∷ bs) = (entry_refusal n t count b ≡ None) × Fitting n t (count + 1) bs

fitting_push : (n t count : ℕ) (es : List ℕ) (b : ℕ) → Fitting n t count es → entry_refusal n t (count + length es) b ≡ None → Fitting n t count (es ++ (b ∷ []))
fitting_push n t count [] b f e = (ap (λ k. entry_refusal n t k b) (sym (add-zero count)) ∙ e, tt)
fitting_push n t count (x ∷ xs) b f e =
    let same : count + 1 + length xs ≡ count + length (x ∷ xs) = omega arith in
    (f.0, fitting_push n t (count + 1) xs b f.1 (ap (λ k. entry_refusal n t k b) same ∙ e))

-- the tests of a chart let it through
passes_tests : (m : Meaning) (count b : ℕ) → entry_refusal m.nonterminals m.codes count b ≡ None → verdict (entry_tests (terms m m.nonterminals 4096) count false b) ≡ Ok tt
passes_tests m count b e =
    let p = or_else_none _ _ e in
    let own = eq-eqb m.nonterminals m.nonterminals refl in
    let proper = if_none (improper b m.codes) BadEntry p.0 in
    let room = if_none (full count m.nonterminals 4096) NoRoom p.1 in
    (λ i. cond (not (own i)) (Err OtherGrammar) (cond false (Err TrialOpen) (cond (proper i) (Err BadEntry) (cond (room i) (Err NoRoom) (Ok tt)))))

runs_on : (m : Meaning) (es bs : List ℕ) → Fitting m.nonterminals m.codes (length es) bs
    → (run (terms m m.nonterminals 4096) (record { entries = es; trial = false }) (map appended bs)).entries ≡ es ++ bs
runs_on m es [] f = sym (append-nil es)
runs_on m es (b ∷ bs) f =
    let s : State = record { entries = es; trial = false } in
    let next = subst (λ k. Fitting m.nonterminals m.codes k bs) (sym (length_push es b)) f.1 in
    ap (λ v. (run (terms m m.nonterminals 4096) (after v s (Append b)) (map appended bs)).entries) (passes_tests m (length es) b f.0)
    ∙ runs_on m (es ++ (b ∷ [])) bs next
    ∙ append_assoc es (b ∷ []) bs

pub accepts_all : (m : Meaning) (es : List ℕ) → Fitting m.nonterminals m.codes 0 es → accepted m 4096 (map appended es) ≡ es
accepts_all m es f = runs_on m [] es f

-- the entries so far fit the grammar so far
abbrev pub Fits : Described → Type 0
Fits d = Fitting (nonterminals_of d) (codes_of d) 0 d.entries

some_front : (byte : ℕ) (cs : List Command) (c : Command) → some byte (cs ++ (c ∷ [])) ≡ false → (some byte cs ≡ false) × (is byte c ≡ false)
some_front byte cs c e = grind (arith, some_push byte cs c)

-- before the first entry there are none
abbrev Quiet : List Command → Described → Type 0
Quiet before d = some 0x0A before ≡ false → d.entries ≡ []

described_quiet : (before : List Command) → describing before ≡ true → some 0x0A before ≡ false
described_quiet before h = not-true _ (and_parts (going before) _ h).1

module _ (before : List Command) (d : Described) (quiet : Quiet before d) where
  -- a description without entries fits
  none_yet : (n t : ℕ) → describing before ≡ true → Fitting n t 0 d.entries
  none_yet n t h = subst (Fitting n t 0) (sym (quiet (described_quiet before h))) tt

  fits_taken : (c : Command) → allowed before c ≡ true → refusal d c ≡ None → Fits d → Fits (taken d c)
  fits_taken c a e f =
      grind (arith, none_yet, and_parts, fitting_push (nonterminals_of d) (codes_of d) 0 d.entries, zero-add (length d.entries))

  quiet_taken : (c : Command) → Quiet (before ++ (c ∷ [])) (taken d c)
  quiet_taken c e = grind (arith, some_front 0x0A before c e)

fits_all : (before cs : List Command) (d : Described) → Ordered before cs → Passes d cs → Quiet before d → Fits d → Fits (describe d cs)
fits_all before [] d o p q f = f
fits_all before (c ∷ cs) d o p q f =
    fits_all (before ++ (c ∷ [])) cs (taken d c) o.1 p.1 (quiet_taken before d q c) (fits_taken before d q c o.0 p.0 f)

pub fits : (cs : List Command) → Ordered [] cs → Passes nothing cs → Fits (describe nothing cs)
fits cs o p = fits_all [] cs nothing o p (λ e. refl) tt

-- there are at most 64 of them
few : (n t count : ℕ) (es : List ℕ) → count ≤ 64 → Fitting n t count es → count + length es ≤ 64
few n t count [] h f = omega arith
few n t count (b ∷ bs) h f =
    let fits : full count n 4096 ≡ false = if_none (full count n 4096) NoRoom (or_else_none (cond (improper b t) (Some BadEntry) None) _ f.0).1 in
    let below = and_parts (ltb count 64) (leb (triangle (count + 2) * n) 4096) (not-false _ fits) in
    let more : count + 1 ≤ 64 = omega (arith, ltb-true count 64 below.0) in
    omega (arith, few n t (count + 1) bs more f.1)

pub few_entries : (input : List ℕ) (d : Described) → Takes input d → length d.entries ≤ 64
few_entries input d t =
    let f : Fits d = subst Fits (sym t.describes) (fits t.commands t.job.ordered t.passes) in
    omega (arith, few (nonterminals_of d) (codes_of d) 0 d.entries (omega arith) f)
