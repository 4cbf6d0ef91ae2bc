use Rattle.std.proofs.Common.{◌+◌, ◌*◌}
use Rattle.load_order.proofs.order.+places.Given as goal

abbrev pub decreases-are_sorted_within : goal.decreases-are_sorted_within
decreases-are_sorted_within g l = 2 * l.cuts + 1

abbrev pub decreases-join+arg2 : goal.decreases-join+arg2
decreases-join+arg2 g l = 2 * l.cuts

abbrev pub decreases-join+arg3 : goal.decreases-join+arg3
decreases-join+arg3 g l = 2 * l.cuts
