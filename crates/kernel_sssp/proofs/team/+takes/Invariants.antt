use Rattle.std.proofs.Common.{◌+◌, ◌-◌, ◌*◌, length}
use Rattle.kernel_sssp.proofs.team.+takes.Given as goal

abbrev pub decreases-take : goal.decreases-take
decreases-take g l = 4 * length l.workers.now

abbrev pub decreases-take_both : goal.decreases-take_both
decreases-take_both g l = 4 * (length l.front.now + length l.back.now) - 1

abbrev pub decreases-take_both-left : goal.decreases-take_both-left
decreases-take_both-left g l = 4 * length l.front.now + 1

abbrev pub decreases-take_both-right : goal.decreases-take_both-right
decreases-take_both-right g l = 4 * length l.back.now + 1
