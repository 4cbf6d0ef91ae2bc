use Rattle.std.proofs.Common.{◌∙◌, ◌∷◌, [], ap, length, length-append, subst}
use Rattle.store_rule.specs.Buffers.{AreVacant}
use Rattle.store_rule.proofs.BufferLemmas.{vacant_front, vacant_last}
use Rattle.store_rule.proofs.buffers.pop_room.Goals as goal

pub returns-clause-room : goal.returns-clause-room
returns-clause-room c = vacant_last c.pop.new.self.items c.in-Some.room
    (subst AreVacant c.in-Some.ensures.items c.requires.vacant)

pub returns-clause-vacant : goal.returns-clause-vacant
returns-clause-vacant c = vacant_front c.pop.new.self.items c.in-Some.room
    (subst AreVacant c.in-Some.ensures.items c.requires.vacant)

pub returns-clause-count : goal.returns-clause-count
returns-clause-count c = ap length c.in-Some.ensures.items ∙ length-append c.pop.new.self.items (c.in-Some.room ∷ [])
