-- The entries of a chart as bits. Assumes nothing.
use Rattle.std.proofs.Common.{◌≡◌, ℕ, ◌-◌, Bool, List, map, length, take, ap, ◌∙◌, sym}
use Rattle.std.proofs.lemmas.List.{length-map, take-map}
use Rattle.entries.specs.declared.entry.Entry.{Entry}
use Rattle.entries.specs.Lists.{Entries}
use Rattle.entries.specs.Model.{state, bits_of, but_last, Fields}

-- as many as the list holds
pub size : (e : Entries) → length (state e).entries ≡ length e.list.items
size e = length-map e.list.items bits_of

pub shorter : (e : Entries) → map bits_of (take (length e.list.items - 1) e.list.items) ≡ but_last (state e).entries
shorter e = sym (ap (λ k. take (k - 1) (state e).entries) (size e) ∙ take-map bits_of (length e.list.items - 1) e.list.items)

-- the state of a list of entries with these fields
pub state_of : (e : Entries) {items : List Entry} {trial : Bool} {own : ℕ} → Fields e items trial own → state e ≡ record { entries = map bits_of items; trial = trial }
state_of e fields i = record { entries = map bits_of (fields.items_are i); trial = fields.trial_is i }
