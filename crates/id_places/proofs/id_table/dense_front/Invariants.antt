-- the ids before this place have no gap
use Rattle.id_places.specs.Places.{StartsDense}
use Rattle.id_places.proofs.id_table.dense_front.Given as goal

abbrev pub invariant-places : goal.invariant-places
invariant-places l = StartsDense l.sorted l.i
