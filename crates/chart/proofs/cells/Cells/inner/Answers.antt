use Rattle.std.proofs.Common.{length, arith}
use Rattle.chart.proofs.Places.{room_before}
use Rattle.chart.proofs.cells.Cells.inner.Goals as goal

pub invariant_of-part-2 : goal.invariant_of-part-2
invariant_of-part-2 g c =
    let s = c.args.self.now in
    record { room = room_before s.span.cells c.args.end s.span.end (length s.slots.now) (omega arith) s.room }
