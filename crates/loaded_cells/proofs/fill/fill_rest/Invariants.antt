use Rattle.std.proofs.Common.{◌≡◌, ◌-◌, length}
use Rattle.loaded_cells.specs.Laid.{AreDivided}
use Rattle.loaded_cells.proofs.fill.fill_rest.Given as goal

abbrev pub invariant-leaves : goal.invariant-leaves
invariant-leaves l = AreDivided l.rows l.at l.index l.ranges.items × (l.index.leaves ≡ l.fn.index.leaves)

abbrev pub decreases-leaves : goal.decreases-leaves
decreases-leaves l = length l.rows - l.at
