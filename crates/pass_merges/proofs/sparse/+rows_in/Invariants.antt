use Rattle.std.proofs.Common.{length}
use Rattle.pass_merges.proofs.sparse.+rows_in.Given as goal

abbrev pub decreases-rows_in : goal.decreases-rows_in
decreases-rows_in l = length l.cells.now
