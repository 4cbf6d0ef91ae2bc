use Rattle.std.proofs.Common.{◌-◌}
use Rattle.row_table.proofs.hand.+hand_each.Given as goal

abbrev pub decreases-hand_each : goal.decreases-hand_each
decreases-hand_each l = l.until - l.place
