-- the vertices so far have each its value in the table
use Rattle.std.proofs.Common.{map, take}
use Rattle.graph_image.specs.Entries.{AreEntries}
use Rattle.kernel_sssp.specs.Distances.{value_of}
use Rattle.kernel_sssp.proofs.distances.table_by.Given as goal

abbrev pub invariant-places : goal.invariant-places
invariant-places l = AreEntries (take l.i l.vertices) (map value_of l.distances) l.entries.items
