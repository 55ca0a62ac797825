use Rattle.std.proofs.Common.{replicate, None, arith}
use Rattle.layers.specs.Laws.Renamed.{nones, none_within, none_read}
use Rattle.layers.proofs.readings.Readings.unread.Goals as goal

pub invariant_of-result : goal.invariant_of-result
invariant_of-result c = record { some = omega arith; few = omega arith; within = none_within (replicate 32 None) (nones 32) }

pub returns : goal.returns
returns c = none_read c.args.count (replicate 32 None) (nones 32)
