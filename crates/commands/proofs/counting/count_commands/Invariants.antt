use Rattle.std.proofs.Common.{◌≡◌, ◌-◌, List, length}
use Rattle.commands.specs.declared.command.Command.{Command}
use Rattle.commands.specs.Readers.{HasRead}
use Rattle.commands.proofs.counting.count_commands.Given as goal

abbrev pub invariant-loop-count : goal.invariant-loop-count
invariant-loop-count l = (l.reader.input.now ≡ l.input) × ((before : List Command) × HasRead l.reader before × (l.count ≡ length before))

abbrev pub decreases-loop-count : goal.decreases-loop-count
decreases-loop-count l = length l.input - l.reader.place
