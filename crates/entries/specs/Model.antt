-- What the calls do to a list of entries and its mark, and when they are refused. Assumes nothing.
use Rattle.std.specs.Prelude.{◌≡◌, ℕ, ◌+◌, ◌-◌, ◌*◌, ◌^◌, ◌≤◌, Bool, true, false, cond, not, ◌&&◌, List, [], ◌∷◌, ◌++◌, map, length, take, Ok, Err, Result, ◌==◌, nat_lt, slice_set}
use Rattle.grammar.specs.Grammars.{Meaning}
use Rattle.grammar.specs.declared.refusal.Refusal.{Refusal}
use Rattle.grammar.specs.declared.refusal.Refusal.TheVariants.{BadEntry, TrialOpen, NoRoom, NoEntry, NoTrial, OtherGrammar}
use Rattle.entries.specs.declared.entry.Entry.{Entry}
use Rattle.entries.specs.Lists.{Entries}
use Rattle.entries.specs.declared.call.Call.{Call}
use Rattle.entries.specs.declared.call.Call.TheVariants.{Clear, Append, TakeBack, Replace, Try, Keep, Withdraw}
use Rattle.entries.specs.Spans.{triangle, full}

-- the entries, each as bits, and whether a trial is open
pub record State : Type 0 where
  pub entries : List ℕ
  pub trial : Bool

-- the bits of an entry
abbrev pub bits_of : Entry → ℕ
bits_of e = e.bits

-- the state of a list of entries: those in use, and the mark
abbrev pub state : Entries → State
state e = record { entries = map bits_of e.list.items; trial = e.trial }

-- no entries, and no trial open
abbrev pub empty : State
empty = record { entries = []; trial = false }

-- what the tests look at besides the state: the number of nonterminals that the list is kept for, the number of slots, and the numbers of nonterminals and of codes of the grammar shown
pub record Terms : Type 0 where
  pub own : ℕ
  pub slots : ℕ
  pub shown : ℕ
  pub codes : ℕ

-- those of a call that is shown the grammar m
abbrev pub terms : Meaning → ℕ → ℕ → Terms
terms m own slots = record { own = own; slots = slots; shown = m.nonterminals; codes = m.codes }

-- a test: where it applies, the call is refused for this reason
pub record Test : Type 0 where
  pub applies : Bool
  pub refusal : Refusal

abbrev pub test : Bool → Refusal → Test
test applies refusal = record { applies = applies; refusal = refusal }

-- the first test that applies gives the answer; where none does, the call is accepted
abbrev pub verdict : List Test → Result (Unit {0}) Refusal
verdict [] = Ok tt
verdict (t ∷ ts) = cond t.applies (Err t.refusal) (verdict ts)

-- the bits are no entry, or have a code that the grammar lacks
abbrev pub improper : ℕ → ℕ → Bool
improper bits codes = not (nat_lt 0 bits && nat_lt bits (2 ^ codes))

-- the tests of a new entry, in their order, with so many entries and this mark
abbrev pub entry_tests : Terms → ℕ → Bool → ℕ → List Test
entry_tests t count trial bits =
    test (not (t.shown == t.own)) OtherGrammar
    ∷ test trial TrialOpen
    ∷ test (improper bits t.codes) BadEntry
    ∷ test (full count t.shown t.slots) NoRoom
    ∷ []

-- the tests of a new entry at the place k
abbrev pub replace_tests : Terms → ℕ → Bool → ℕ → ℕ → List Test
replace_tests t count trial k bits =
    test (not (t.shown == t.own)) OtherGrammar
    ∷ test trial TrialOpen
    ∷ test (not (nat_lt k count)) NoEntry
    ∷ test (improper bits t.codes) BadEntry
    ∷ []

-- the tests of each call, in their order
abbrev pub tests : Terms → State → Call → List Test
tests t s Clear = []
tests t s (Append bits) = entry_tests t (length s.entries) s.trial bits
tests t s TakeBack = test s.trial TrialOpen ∷ test (length s.entries == 0) NoEntry ∷ []
tests t s (Replace k bits) = replace_tests t (length s.entries) s.trial k bits
tests t s (Try bits) = entry_tests t (length s.entries) s.trial bits
tests t s Keep = test (not s.trial) NoTrial ∷ []
tests t s Withdraw = test (not s.trial) NoTrial ∷ []

-- the answer to a call
abbrev pub answer : Terms → State → Call → Result (Unit {0}) Refusal
answer t s call = verdict (tests t s call)

-- all entries but the last
abbrev pub but_last : List ℕ → List ℕ
but_last es = take (length es - 1) es

-- what an accepted call does
abbrev pub does : State → Call → State
does s Clear = empty
does s (Append bits) = record { entries = s.entries ++ (bits ∷ []); trial = s.trial }
does s TakeBack = record { entries = but_last s.entries; trial = s.trial }
does s (Replace k bits) = record { entries = slice_set s.entries k bits; trial = s.trial }
does s (Try bits) = record { entries = s.entries ++ (bits ∷ []); trial = true }
does s Keep = record { entries = s.entries; trial = false }
does s Withdraw = record { entries = but_last s.entries; trial = false }

-- an accepted call does what it does, a refused one changes nothing
abbrev pub after : Result (Unit {0}) Refusal → State → Call → State
after (Ok u) s call = does s call
after (Err why) s call = s

-- the state after a call
abbrev pub step : Terms → State → Call → State
step t s call = after (answer t s call) s call

-- a call took the entries e to f, with the answer r
pub record Did (t : Terms) (e : Entries) (call : Call) (r : Result (Unit {0}) Refusal) (f : Entries) : Type 0 where
  pub answered : r ≡ answer t (state e) call
  pub moved : state f ≡ step t (state e) call
  pub own : f.nonterminals ≡ e.nonterminals

-- the answer without what an accepted call hands out
abbrev pub plain : {T : Type 0} → Result T Refusal → Result (Unit {0}) Refusal
plain (Ok x) = Ok tt
plain (Err why) = Err why

-- tests with the verdict v let bits through as an entry, or refuse them
abbrev pub Admits : Result (Unit {0}) Refusal → ℕ → Result Entry Refusal → Type 0
Admits v bits (Ok e) = (v ≡ Ok tt) × (e.bits ≡ bits)
Admits v bits (Err why) = v ≡ Err why

-- an entry was added at the end of `count` others: it has these bits, the grammar shown has as many nonterminals as the list is kept for, and there are slots for it
pub record Added (m : Meaning) (own slots count bits : ℕ) (entry : Entry) : Type 0 where
  pub bits_are : entry.bits ≡ bits
  pub same : m.nonterminals ≡ own
  pub room : triangle (count + 2) * own ≤ slots

-- f is a front of e: its first k entries, kept for the same number of nonterminals
pub record Front (e f : Entries) : Type 0 where
  pub k : ℕ
  pub are : (state f).entries ≡ take k (state e).entries
  pub own : f.nonterminals ≡ e.nonterminals

-- what a list of entries holds, field by field
pub record Fields (e : Entries) (items : List Entry) (trial : Bool) (own : ℕ) : Type 0 where
  pub items_are : e.list.items ≡ items
  pub trial_is : e.trial ≡ trial
  pub own_is : e.nonterminals ≡ own
