-- the vertices so far have each its value in the table
use Rattle.std.proofs.Common.{take}
use Rattle.graph_image.specs.Entries.{AreEntries}
use Rattle.graph_image.proofs.table.table_of.Given as goal

abbrev pub invariant-places : goal.invariant-places
invariant-places l = AreEntries (take l.i l.vertices) l.values l.entries.items
