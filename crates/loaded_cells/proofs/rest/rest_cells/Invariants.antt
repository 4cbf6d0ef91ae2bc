use Rattle.std.proofs.Common.{◌≡◌, map, take}
use Rattle.rule_model.specs.VersionSegment.Resting.{settled_rest}
use Rattle.loaded_cells.specs.Numbered.{resting_rows}
use Rattle.loaded_cells.proofs.rest.rest_cells.Given as goal

abbrev pub invariant-cells : goal.invariant-cells
invariant-cells l = resting_rows l.resting.items ≡ map settled_rest (take l.cell l.counts)
