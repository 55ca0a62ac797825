use Rattle.std.proofs.Common.{◌≡◌, ℕ, ◌<◌, get_or}
use Rattle.chart.proofs.columns.wipe.Given as goal

abbrev pub invariant-loop-slot : goal.invariant-loop-slot
invariant-loop-slot g l = (k : ℕ) (d : g.row.S.Denot) → k < l.slot-index → get_or l.slots k d ≡ g.S.Semiring.ring.zero
