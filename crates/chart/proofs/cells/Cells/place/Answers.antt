use Rattle.std.proofs.Common.{arith}
use Rattle.chart.proofs.Places.{inside}
use Rattle.chart.proofs.cells.Cells.place.Goals as goal

pub returns : goal.returns
returns g c =
    let s = c.args.self.now in
    record {
      is = c.slot.ensures;
      inside = omega (arith, inside s.span.cells s.span.begin s.span.end c.args.a _ s.span.some c.requires s.room.fits);
    }
