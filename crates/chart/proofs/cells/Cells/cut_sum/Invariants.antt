use Rattle.std.proofs.Common.{◌≡◌, ◌+◌, ◌-◌}
use Rattle.semiring.specs.Semirings.{sum_below}
use Rattle.chart.specs.Cells.{place, cell_at, cut_product}
use Rattle.chart.proofs.cells.Cells.cut_sum.Given as goal

abbrev pub invariant-loop-cut : goal.invariant-loop-cut
invariant-loop-cut g l =
    let ring = g.S.Semiring.ring in
    let s = l.self.span in record {
      left : l.l ≡ place s.cells s.begin l.cut l.left;
      right : l.r ≡ place s.cells l.cut s.end l.right;
      sum : l.sum ≡ sum_below ring (l.cut - (s.begin + 1)) (cut_product ring (cell_at ring s.cells l.self.slots.now) s.begin s.end l.left l.right);
    }
