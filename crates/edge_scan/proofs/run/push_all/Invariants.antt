-- The buffer has what it had and the rows so far.
use Rattle.std.proofs.Common.{◌≡◌, ◌++◌, take}
use Rattle.edge_scan.proofs.run.push_all.Given as goal

abbrev pub invariant-run : goal.invariant-run
invariant-run l = l.buffer ≡ l.fn.buffer ++ take l.row-index l.fn.run
