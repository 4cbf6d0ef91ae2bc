-- The buffer has the rows so far.
use Rattle.std.proofs.Common.{◌≡◌, take}
use Rattle.pass_readers.proofs.runs.copy_rows.Given as goal

abbrev pub invariant-rows : goal.invariant-rows
invariant-rows l = l.run ≡ take l.row-index l.fn.rows
