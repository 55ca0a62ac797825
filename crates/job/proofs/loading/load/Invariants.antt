use Rattle.std.proofs.Common.{◌≡◌, ◌-◌, length}
use Rattle.job.specs.Held.{held}
use Rattle.job.specs.Loading.{Loading}
use Rattle.job.proofs.loading.load.Given as goal

abbrev pub invariant-loop-command : goal.invariant-loop-command
invariant-loop-command l = (l.reader.input ≡ l.initial.reader.input) × Loading l.reader (held l.description)

abbrev pub decreases-loop-command : goal.decreases-loop-command
decreases-loop-command l = length l.initial.reader.input.now - l.reader.place
