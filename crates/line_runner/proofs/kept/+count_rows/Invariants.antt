use Rattle.std.proofs.Common.{length}
use Rattle.line_runner.proofs.kept.+count_rows.Given as goal

abbrev pub decreases-count_rows : goal.decreases-count_rows
decreases-count_rows l = length l.lists.now
