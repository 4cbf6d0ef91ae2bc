use Rattle.latch_table.proofs.PlaceLemmas.{places_apart}
use Rattle.latch_table.proofs.laws.places_are_apart.Goals as goal

pub returns : goal.returns
returns c = places_apart
