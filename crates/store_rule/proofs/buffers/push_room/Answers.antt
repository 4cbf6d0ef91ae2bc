use Rattle.std.proofs.Common.{◌∙◌, ◌∷◌, [], ap, length, length-append, subst, sym}
use Rattle.store_rule.specs.Buffers.{AreVacant}
use Rattle.store_rule.proofs.BufferLemmas.{vacant_more}
use Rattle.store_rule.proofs.buffers.push_room.Goals as goal

pub returns-clause-vacant : goal.returns-clause-vacant
returns-clause-vacant c = subst AreVacant (sym c.in-Ok.ensures.items)
    (vacant_more c.args.free.now.items c.args.room c.requires.vacant c.requires.room)

pub returns-clause-count : goal.returns-clause-count
returns-clause-count c less = ap length c.in-Ok.ensures.items ∙ length-append c.args.free.now.items (c.args.room ∷ [])
