-- The stages of a job: which commands each lets through, and where to; and what the commands before have to do with them. Assumes nothing.
use Rattle.std.specs.Prelude.{◌≡◌, true, false, cond, List, [], Some, None, Option}
use Rattle.commands.specs.declared.command.Command.{Command}
use Rattle.commands.specs.declared.command.Command.TheVariants.{Grammar, Pair, Leaf, Ban, Automaton, Step, Renaming, Reading, Entry, End}
use Rattle.commands.specs.declared.stage.Stage.{Stage}
use Rattle.commands.specs.declared.stage.Stage.TheVariants.{Declaring, Describing, Entries, Ended}
use Rattle.commands.specs.Order.{some, going, describing}
use Rattle.commands.specs.Jobs.{Ends}

-- the stage after a command, or none where it may not come; `a` and `r` say whether an automaton and a renaming came
abbrev pub next_stage : Stage → Command → Option Stage
next_stage Declaring (Grammar n t start) = Some (Describing false false)
next_stage Declaring (Pair lhs left right cost) = None
next_stage Declaring (Leaf lhs code cost) = None
next_stage Declaring (Ban number) = None
next_stage Declaring (Automaton q k start accept) = None
next_stage Declaring (Step from code to) = None
next_stage Declaring (Renaming count) = None
next_stage Declaring (Reading recorder code) = None
next_stage Declaring (Entry bits) = None
next_stage Declaring End = None
next_stage (Describing a r) (Grammar n t start) = None
next_stage (Describing a r) (Pair lhs left right cost) = Some (Describing a r)
next_stage (Describing a r) (Leaf lhs code cost) = Some (Describing a r)
next_stage (Describing a r) (Ban number) = Some (Describing a r)
next_stage (Describing a r) (Automaton q k start accept) = cond a None (Some (Describing true r))
next_stage (Describing a r) (Step from code to) = cond a (Some (Describing true r)) None
next_stage (Describing a r) (Renaming count) = cond r None (Some (Describing a true))
next_stage (Describing a r) (Reading recorder code) = cond r (Some (Describing a true)) None
next_stage (Describing a r) (Entry bits) = Some Entries
next_stage (Describing a r) End = Some Ended
next_stage Entries (Grammar n t start) = None
next_stage Entries (Pair lhs left right cost) = None
next_stage Entries (Leaf lhs code cost) = None
next_stage Entries (Ban number) = None
next_stage Entries (Automaton q k start accept) = None
next_stage Entries (Step from code to) = None
next_stage Entries (Renaming count) = None
next_stage Entries (Reading recorder code) = None
next_stage Entries (Entry bits) = Some Entries
next_stage Entries End = Some Ended
next_stage Ended c = None

-- the commands `before` lead to the stage
abbrev pub Stands : List Command → Stage → Type 0
Stands before Declaring = before ≡ []
Stands before (Describing automaton renaming) = (describing before ≡ true) × (some 0x05 before ≡ automaton) × (some 0x07 before ≡ renaming)
Stands before Entries = (going before ≡ true) × (some 0x0A before ≡ true)
Stands before Ended = Ends before
