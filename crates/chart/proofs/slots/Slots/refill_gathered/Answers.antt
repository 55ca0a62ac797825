use Rattle.chart.proofs.Sized.{rules_fit}
use Rattle.chart.proofs.slots.Slots.refill_gathered.Goals as goal

pub of-gathered-requires : goal.of-gathered-requires
of-gathered-requires g c = rules_fit g.row.N c.requires.few
