-- each slot is empty, or has the first place of its id
use Rattle.std.proofs.Common.{All}
use Rattle.id_places.specs.Places.{IsRight}
use Rattle.id_places.proofs.slots.IdSlots.of.Given as goal

abbrev pub invariant-places : goal.invariant-places
invariant-places l = All (IsRight l.sorted) l.slots
