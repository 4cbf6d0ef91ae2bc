use Rattle.std.proofs.Common.{length}
use Rattle.pass_moves.proofs.contents.+count_rows.Given as goal

abbrev pub decreases-count_rows : goal.decreases-count_rows
decreases-count_rows l = length l.cells.now
