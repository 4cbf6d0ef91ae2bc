use Rattle.std.proofs.Common.{length}
use Rattle.thread_runner.proofs.driver.+count_lines.Given as goal

abbrev pub decreases-count_lines : goal.decreases-count_lines
decreases-count_lines g l = length l.seats.now
