use Rattle.std.proofs.Common.{◌≡◌, ◌∙◌, length, ap, arith}
use Rattle.head_map.specs.Heads.{lowered_row}
use Rattle.head_map.proofs.HeadLemmas.{found_at}
use Rattle.head_map.proofs.PlaceLemmas.{gap_high, close_placed, close_gap_heads, close_row_heads, removed_placed, removed_gap, length-changed_from}
use Rattle.head_map.proofs.list.HeadList.close.Goals as goal

pub lower_from-requires-clause-high : goal.lower_from-requires-clause-high
lower_from-requires-clause-high c =
    let row = found_at _ c.self.inside.rows.items c.in-Ok.index (rw c.as_slice.ensures.value at c.in-Ok.ensures) in
    let placed = removed_placed c.self.inside.rows.items c.args.place c.in-Ok.index c.self.invariant row.0 row.1 row.2 in
    rw c.remove.ensures.items (gap_high _ c.args.place c.in-Ok.index placed (removed_gap c.self.inside.rows.items c.args.place c.in-Ok.index c.self.invariant row.0 row.1 row.2))

pub invariant_of-self : goal.invariant_of-self
invariant_of-self c =
    let row = found_at _ c.self.inside.rows.items c.in-Ok.index (rw c.as_slice.ensures.value at c.in-Ok.ensures) in
    let placed = removed_placed c.self.inside.rows.items c.args.place c.in-Ok.index c.self.invariant row.0 row.1 row.2 in
    rw (c.lower_from.ensures.rows, c.remove.ensures.items) (close_placed _ c.args.place c.in-Ok.index placed (removed_gap c.self.inside.rows.items c.args.place c.in-Ok.index c.self.invariant row.0 row.1 row.2))

pub lower_from-requires-in-Err-clause-high : goal.lower_from-requires-in-Err-clause-high
lower_from-requires-in-Err-clause-high c = gap_high c.self.inside.rows.items c.args.place c.in-Err.index c.self.invariant (rw c.as_slice.ensures.value at c.in-Err.ensures)

pub invariant_of-self-in-Err : goal.invariant_of-self-in-Err
invariant_of-self-in-Err c = rw c.lower_from-in-Err.ensures.rows (close_placed c.self.inside.rows.items c.args.place c.in-Err.index c.self.invariant (rw c.as_slice.ensures.value at c.in-Err.ensures))

pub returns-in-Ok-clause-heads : goal.returns-in-Ok-clause-heads
returns-in-Ok-clause-heads c =
    let row = found_at _ c.self.inside.rows.items c.in-Ok.index (rw c.as_slice.ensures.value at c.in-Ok.ensures) in
    rw (c.lower_from.ensures.rows, c.remove.ensures.items, ← c.self.view_is) (close_row_heads c.self.inside.rows.items c.args.place c.in-Ok.index c.self.invariant row.0 row.1 row.2)

pub returns-in-Ok-clause-spare : goal.returns-in-Ok-clause-spare
returns-in-Ok-clause-spare c =
    let same : length c.lower_from.new.rows.items ≡ length c.remove.new.self.items = ap length c.lower_from.ensures.rows ∙ length-changed_from (lowered_row 1) c.remove.new.self.items c.in-Ok.index in
    rw (← c.self.view_is) (omega (arith, same, c.lower_from.ensures.capacity, c.remove.ensures.len, c.remove.ensures.capacity))

pub returns-in-Err-clause-heads : goal.returns-in-Err-clause-heads
returns-in-Err-clause-heads c = rw (c.lower_from-in-Err.ensures.rows, ← c.self.view_is) (close_gap_heads c.self.inside.rows.items c.args.place c.in-Err.index c.self.invariant (rw c.as_slice.ensures.value at c.in-Err.ensures))

pub returns-in-Err-clause-spare : goal.returns-in-Err-clause-spare
returns-in-Err-clause-spare c =
    let same : length c.lower_from-in-Err.new.rows.items ≡ length c.self.inside.rows.items = ap length c.lower_from-in-Err.ensures.rows ∙ length-changed_from (lowered_row 1) c.self.inside.rows.items c.in-Err.index in
    rw (← c.self.view_is) (omega (arith, same, c.lower_from-in-Err.ensures.capacity))
