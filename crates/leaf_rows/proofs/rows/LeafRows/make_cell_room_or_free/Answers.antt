use Rattle.std.proofs.Common.{sym, ◌∙◌, subst}
use Rattle.leaf_store.specs.Changes.{IsRoomRefusal}
use Rattle.leaf_rows.proofs.RoomLemmas.{none_freed}
use Rattle.leaf_rows.proofs.rows.LeafRows.make_cell_room_or_free.Goals as goal

pub returns-then-free_retired-eq0-clause-refused : goal.returns-then-free_retired-eq0-clause-refused
returns-then-free_retired-eq0-clause-refused c =
    let why = subst (λ r. IsRoomRefusal c.args.self.now c.args.key c.args.need r c.make_cell_room.new.self) c.in-Err-Full.field-0-is c.in-Err-Full.ensures.refused in
    let none = none_freed c.args.until _ _ c.free_retired.ensures.freed (sym c.free_retired.ensures.count ∙ c.if-free_retired-eq0.true) in
    (why.0, why.1, why.2, none.0 ∙ why.3)

pub returns-then-free_retired-eq0-clause-spent : goal.returns-then-free_retired-eq0-clause-spent
returns-then-free_retired-eq0-clause-spent c =
    (none_freed c.args.until _ _ c.free_retired.ensures.freed (sym c.free_retired.ensures.count ∙ c.if-free_retired-eq0.true)).1
