use Rattle.leaf_rows.proofs.RoomLemmas.{moved_keeps}
use Rattle.leaf_rows.proofs.rows.LeafRows.merge_step.Goals as goal

pub returns-clause-contents : goal.returns-clause-contents
returns-clause-contents c = rw (← c.self.view_is) (moved_keeps c.self.inside.store c.merge_step-did.new.self c.is_sound.ensures.sound c.is_sound-2.ensures.sound c.merge_step-did.ensures.compacts.moves)
