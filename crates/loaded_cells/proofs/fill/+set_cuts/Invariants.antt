use Rattle.std.proofs.Common.{length}
use Rattle.loaded_cells.proofs.fill.+set_cuts.Given as goal

abbrev pub decreases-set_cuts : goal.decreases-set_cuts
decreases-set_cuts l = length l.cuts.now
