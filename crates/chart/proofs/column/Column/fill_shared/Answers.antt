use Rattle.std.proofs.Common.{◌*◌, ◌<◌, length, rules}
use prog.Memory.{size}
use denote.Memory.{lone}
use denote.Param.{layout}
use Rattle.chart.proofs.Sized.{sums_fit}
use Rattle.chart.proofs.column.Column.fill_shared.Goals as goal

-- the slots fit, of which there are more than sums
pub whole_as_slice-fill_with : goal.whole_as_slice-fill_with
whole_as_slice-fill_with g c =
    let fits : length c.args.slots.now * size (lone g.row.W-Value.mir) < 9223372036854775808 = search rules in
    sums_fit (lone g.row.W-Value.mir) (layout g.row.W-Value) g.row.N (length c.args.slots.now) c.requires.few c.requires.many fits
