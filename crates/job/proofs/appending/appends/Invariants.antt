use Rattle.std.proofs.Common.{◌≡◌, map, take}
use Rattle.job.specs.Appending.{appended}
use Rattle.job.proofs.appending.appends.Given as goal

-- the calls of the entries so far
abbrev pub invariant-loop-codes : goal.invariant-loop-codes
invariant-loop-codes l = l.calls.items ≡ map appended (take l.codes-index l.entries)
