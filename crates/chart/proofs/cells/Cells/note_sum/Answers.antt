use Rattle.chart.proofs.Noting.{noted_set}
use Rattle.chart.proofs.cells.Cells.note_sum.Goals as goal

pub returns-then-not-is_empty : goal.returns-then-not-is_empty
returns-then-not-is_empty g c =
    noted_set g.S.Semiring.ring c.args.self.now.span c.args.self.now.slots.now c.args.sums.now c.place-at.result c.args.key c.args.value c.requires.right c.requires.known
