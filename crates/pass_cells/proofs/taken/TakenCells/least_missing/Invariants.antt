use Rattle.pass_cells.specs.Taken.{IsMissingOf}
use Rattle.pass_cells.proofs.taken.TakenCells.least_missing.Given as goal

abbrev pub invariant-keys : goal.invariant-keys
invariant-keys l = IsMissingOf l.self.list.items l.keys l.place l.least
