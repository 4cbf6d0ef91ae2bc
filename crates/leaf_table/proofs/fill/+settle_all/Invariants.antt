use Rattle.std.proofs.Common.{length}
use Rattle.leaf_table.proofs.fill.+settle_all.Given as goal

abbrev pub decreases-settle_all : goal.decreases-settle_all
decreases-settle_all l = length l.segments.now
