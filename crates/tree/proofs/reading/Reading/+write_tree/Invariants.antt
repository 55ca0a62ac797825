use Rattle.std.proofs.Common.{◌-◌}
use Rattle.tree.proofs.reading.Reading.+write_tree.Given as goal

abbrev pub decreases-write_tree : goal.decreases-write_tree
decreases-write_tree g l = l.node.end - l.node.begin
