use Rattle.std.proofs.Common.{sym, ◌∙◌}
use Rattle.leaf_rows.proofs.RoomLemmas.{none_freed, none_left, spent_err}
use Rattle.leaf_rows.proofs.rows.LeafRows.make_room_or_free.Goals as goal

pub returns-then-free_retired-eq0-clause-spent : goal.returns-then-free_retired-eq0-clause-spent
returns-then-free_retired-eq0-clause-spent c =
    (none_freed c.args.until _ _ c.free_retired.ensures.freed (sym c.free_retired.ensures.count ∙ c.if-free_retired-eq0.true)).1

pub returns-else-free_retired-eq0-clause-spent : goal.returns-else-free_retired-eq0-clause-spent
returns-else-free_retired-eq0-clause-spent c =
    spent_err c.args.until c.make_room-in-Err-Full.new.self c.make_room-in-Err-Full.result
    (none_left c.args.until c.make_room.new.self c.free_retired.new.self c.make_room-in-Err-Full.new.self c.free_retired.ensures.freed c.make_room-in-Err-Full.ensures.stays.retired)
