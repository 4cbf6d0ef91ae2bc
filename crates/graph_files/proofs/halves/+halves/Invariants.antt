use Rattle.std.proofs.Common.{◌+◌, ◌*◌}
use Rattle.graph_files.proofs.halves.+halves.Given as goal

abbrev pub decreases-read_halves : goal.decreases-read_halves
decreases-read_halves g l = 4 * l.cuts + 3

abbrev pub decreases-read_both : goal.decreases-read_both
decreases-read_both g l = 4 * l.cuts + 2

abbrev pub decreases-read_both-join+arg2 : goal.decreases-read_both-join+arg2
decreases-read_both-join+arg2 g l = 4 * l.cuts + 1

abbrev pub decreases-read_both-join+arg3 : goal.decreases-read_both-join+arg3
decreases-read_both-join+arg3 g l = 4 * l.cuts + 1
