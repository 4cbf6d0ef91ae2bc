-- the edges before this place have these numbers
use Rattle.std.proofs.Common.{take}
use Rattle.id_places.specs.Places.{AreNumbers}
use Rattle.id_places.proofs.numbers.numbers_of.Given as goal

abbrev pub invariant-edges : goal.invariant-edges
invariant-edges l = AreNumbers l.kind l.known (take l.edge-index l.edges) l.numbers.items
