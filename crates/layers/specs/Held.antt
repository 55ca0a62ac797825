-- What the values of this crate stand for: a list of bans, a recorder, and the meaning of each layer by that of the grammar below. Assumes nothing.
use Rattle.std.specs.Prelude.{ℕ, cond, List, None, Option, nat_lt, slice_index_or}
use Rattle.grammar.specs.Grammars.{Meaning}
use Rattle.automata.specs.Machines.{Machine}
use Rattle.layers.specs.Listing.{Bans}
use Rattle.layers.specs.declared.readings.Readings.{Readings}
use Rattle.layers.specs.declared.ban.Ban.{Ban}
use Rattle.layers.specs.declared.intersection.Intersection.{Intersection}
use Rattle.layers.specs.declared.renaming.Renaming.{Renaming}
use Rattle.layers.specs.declared.reversal.Reversal.{Reversal}
use Rattle.layers.specs.Ban.{ban}
use Rattle.layers.specs.Reversal.{reversal}
use Rattle.layers.specs.Intersection.{intersection}
use Rattle.layers.specs.Renaming.{Recorder, renaming}

-- the banned numbers, as they were added
abbrev pub banned : Bans → List ℕ
banned b = b.numbers.items

-- how the first `count` places read
abbrev pub read_at : ℕ → List (Option ℕ) → ℕ → Option ℕ
read_at count codes b = cond (nat_lt b count) (slice_index_or codes b None) None

-- the recorder of some readings
abbrev pub recorder : Readings → Recorder
recorder r = record { count = r.count; read = read_at r.count r.codes }

-- the meaning of a ban, where `below` gives that of the grammar below; and so on for the other layers
abbrev pub ban_meaning : {G : Type 0} → (G → Meaning) → Ban G → Meaning
ban_meaning below g = ban (banned g.bans) (below g.below)

abbrev pub intersection_meaning : {G M : Type 0} → (G → Meaning) → (M → Machine) → Intersection G M → Meaning
intersection_meaning below machine g = intersection (machine g.automaton) (below g.below)

abbrev pub renaming_meaning : {G : Type 0} → (G → Meaning) → Renaming G → Meaning
renaming_meaning below g = renaming (recorder g.readings) (below g.below)

abbrev pub reversal_meaning : {G : Type 0} → (G → Meaning) → Reversal G → Meaning
reversal_meaning below g = reversal (below g.below)
