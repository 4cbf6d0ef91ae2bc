use Rattle.std.proofs.Common.{length}
use Rattle.pass_prunes.proofs.taken.+prune_each.Given as goal

-- one cell fewer is left
abbrev pub decreases-prune_each : goal.decreases-prune_each
decreases-prune_each l = length l.taken.now
