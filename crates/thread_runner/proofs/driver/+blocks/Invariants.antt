use Rattle.std.proofs.Common.{◌+◌, ◌-◌, ◌*◌}
use Rattle.thread_runner.proofs.driver.+blocks.Given as goal

abbrev pub decreases-run_blocks : goal.decreases-run_blocks
decreases-run_blocks g l = 4 * l.workers

abbrev pub decreases-both_parts : goal.decreases-both_parts
decreases-both_parts g l = 4 * (l.first + l.others) - 1

abbrev pub decreases-both_parts-left : goal.decreases-both_parts-left
decreases-both_parts-left g l = 4 * l.first + 1

abbrev pub decreases-both_parts-right : goal.decreases-both_parts-right
decreases-both_parts-right g l = 4 * l.others + 1
