use Rattle.std.proofs.Common.{length}
use Rattle.pass_moves.proofs.contents.+exchange.Given as goal

abbrev pub decreases-exchange : goal.decreases-exchange
decreases-exchange l = length l.cells.now
