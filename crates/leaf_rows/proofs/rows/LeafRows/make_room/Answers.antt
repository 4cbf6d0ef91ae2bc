use Rattle.leaf_rows.proofs.PlacingLemmas.{places_swap}
use Rattle.leaf_rows.proofs.rows.LeafRows.make_room.Goals as goal

pub returns-else-is_below-clause-places : goal.returns-else-is_below-clause-places
returns-else-is_below-clause-places c = rw c.in-Some.is (places_swap _ _ _ _ c.make_both-else-is_below.result c.make_both-else-is_below.ensures.places)
