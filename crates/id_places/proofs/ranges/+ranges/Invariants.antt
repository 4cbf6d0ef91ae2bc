use Rattle.std.proofs.Common.{◌+◌, ◌*◌}
use Rattle.id_places.proofs.ranges.+ranges.Given as goal

abbrev pub decreases-differ : goal.decreases-differ
decreases-differ g l = 4 * l.cuts + 3

abbrev pub decreases-differ_both : goal.decreases-differ_both
decreases-differ_both g l = 4 * l.cuts + 2

abbrev pub decreases-differ_both-join+arg2 : goal.decreases-differ_both-join+arg2
decreases-differ_both-join+arg2 g l = 4 * l.cuts + 1

abbrev pub decreases-differ_both-join+arg3 : goal.decreases-differ_both-join+arg3
decreases-differ_both-join+arg3 g l = 4 * l.cuts + 1
