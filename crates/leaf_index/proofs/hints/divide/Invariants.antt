use Rattle.std.proofs.Common.{length, ◌-◌}
use Rattle.leaf_index.proofs.hints.divide.Given as goal

abbrev pub decreases-hints : goal.decreases-hints
decreases-hints l = length l.hints - l.place
