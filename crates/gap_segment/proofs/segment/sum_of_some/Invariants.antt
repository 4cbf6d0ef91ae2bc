use Rattle.std.proofs.Common.{◌-◌}
use Rattle.gap_segment.proofs.segment.sum_of_some.Given as goal

abbrev pub decreases-rows : goal.decreases-rows
decreases-rows l = l.end - l.place
