use Rattle.std.proofs.Common.{◌+◌, ◌*◌}
use Rattle.graphalytics_io.proofs.pieces.+pieces.Given as goal

abbrev pub decreases-pieces_of : goal.decreases-pieces_of
decreases-pieces_of g l = 4 * l.cuts + 3

abbrev pub decreases-pieces_of_both : goal.decreases-pieces_of_both
decreases-pieces_of_both g l = 4 * l.cuts + 2

abbrev pub decreases-pieces_of_both-join+arg2 : goal.decreases-pieces_of_both-join+arg2
decreases-pieces_of_both-join+arg2 g l = 4 * l.cuts + 1

abbrev pub decreases-pieces_of_both-join+arg3 : goal.decreases-pieces_of_both-join+arg3
decreases-pieces_of_both-join+arg3 g l = 4 * l.cuts + 1
