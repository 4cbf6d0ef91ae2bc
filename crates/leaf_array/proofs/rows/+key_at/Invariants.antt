use Rattle.std.proofs.Common.{length}
use Rattle.leaf_array.proofs.rows.+key_at.Given as goal

abbrev pub decreases-key_at : goal.decreases-key_at
decreases-key_at l = length l.segments.now
