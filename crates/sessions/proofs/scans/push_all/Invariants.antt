use Rattle.std.proofs.Common.{◌≡◌, ◌++◌, map, take}
use Rattle.sessions.specs.Scanned.{neighbour_of}
use Rattle.sessions.proofs.scans.push_all.Given as goal

abbrev pub invariant-rows : goal.invariant-rows
invariant-rows l = l.list ≡ l.initial.list ++ map neighbour_of (take l.row-index l.rows)
