-- Entries, and the calls that append them. Assumes nothing.
use Rattle.std.specs.Prelude.{ℕ}
use Rattle.entries.specs.declared.call.Call.{Call}
use Rattle.entries.specs.declared.call.Call.TheVariants.{Append}

-- the call that appends an entry
abbrev pub appended : ℕ → Call
appended bits = Append bits
