use Rattle.std.proofs.Common.{◌+◌, ◌*◌, length}
use Rattle.teseo_store.proofs.lend.+works.Given as goal

abbrev pub decreases-work_from_last : goal.decreases-work_from_last
decreases-work_from_last g l = 4 * length l.works.now

abbrev pub decreases-work_beside : goal.decreases-work_beside
decreases-work_beside g l = 4 * length l.rest.now + 2

abbrev pub decreases-work_beside-others : goal.decreases-work_beside-others
decreases-work_beside-others g l = 4 * length l.rest.now + 1
