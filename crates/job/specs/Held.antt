-- What the values of this crate hold. Assumes nothing.
use Rattle.std.specs.Prelude.{Some, None, Option}
use Rattle.table.specs.Drafts.{contents}
use Rattle.automata.specs.Held.{table_machine}
use Rattle.layers.specs.declared.readings.Readings.{Readings}
use Rattle.layers.specs.Held.{banned, recorder as recorder_of}
use Rattle.layers.specs.Renaming.{Recorder}
use Rattle.job.specs.declared.description.Description.{Description}
use Rattle.job.specs.Describing.{Described}

-- the recorder, if there are readings
abbrev pub recorder_in : Option Readings → Option Recorder
recorder_in None = None
recorder_in (Some r) = Some (recorder_of r)

-- what a description holds
abbrev pub held : Description → Described
held d = record { table = contents d.draft; bans = banned d.bans; machine = table_machine d.automaton; recorder = recorder_in d.readings; entries = d.entries.items }
