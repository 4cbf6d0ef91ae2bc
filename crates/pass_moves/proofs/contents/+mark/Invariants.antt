use Rattle.std.proofs.Common.{length}
use Rattle.pass_moves.proofs.contents.+mark.Given as goal

abbrev pub decreases-mark : goal.decreases-mark
decreases-mark l = length l.cells.now
