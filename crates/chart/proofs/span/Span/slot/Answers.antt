use Rattle.std.proofs.Common.{refl}
use Rattle.entries.specs.Spans.{triangle}
use Rattle.chart.specs.Cells.{place}
use Rattle.chart.proofs.span.Span.slot.Goals as goal

pub returns : goal.returns
unfolding place triangle
returns c = refl
