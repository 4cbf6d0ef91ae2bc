use Rattle.leaf_rows.proofs.RoomLemmas.{moved_stays}
use Rattle.leaf_rows.proofs.rows.LeafRows.make_cell_room.Goals as goal

pub returns-clause-stays : goal.returns-clause-stays
returns-clause-stays c = rw (← c.self.view_is) (moved_stays c.self.inside.store c.make_room-made.new.self c.is_sound.ensures.sound c.is_sound-2.ensures.sound c.make_room-made.ensures.moved c.make_room-made.ensures.retired)
