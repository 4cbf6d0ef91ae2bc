use Rattle.std.proofs.Common.{◌≡◌, take}
use Rattle.loaded_cells.specs.Numbered.{row_counts}
use Rattle.loaded_cells.specs.Ranges.{loaded_segments}
use Rattle.loaded_cells.proofs.rest.count_rows.Given as goal

abbrev pub invariant-leaves : goal.invariant-leaves
invariant-leaves l = l.counts.items ≡ row_counts (loaded_segments (take l.number l.leaves))
