use Rattle.std.proofs.Common.{◌≡◌, ◌∙◌, length, ap, arith}
use Rattle.head_map.specs.Heads.{raised_row}
use Rattle.head_map.proofs.PlaceLemmas.{open_placed, open_heads, room_above, length-changed_from}
use Rattle.head_map.proofs.list.HeadList.open.Goals as goal

pub raise_from-requires-clause-byte : goal.raise_from-requires-clause-byte
raise_from-requires-clause-byte c = room_above 255 1 c.self.inside.rows.items (omega arith) c.self.invariant (rw (← c.self.view_is) at c.requires)

pub invariant_of-self : goal.invariant_of-self
invariant_of-self c = rw c.raise_from.ensures.rows (open_placed c.self.inside.rows.items c.args.place c.index_in-index.result c.self.invariant (rw c.as_slice.ensures.value at c.index_in-index.ensures))

pub returns-clause-heads : goal.returns-clause-heads
returns-clause-heads c = rw (c.raise_from.ensures.rows, ← c.self.view_is) (open_heads c.self.inside.rows.items c.args.place c.index_in-index.result c.self.invariant (rw c.as_slice.ensures.value at c.index_in-index.ensures))

pub returns-clause-spare : goal.returns-clause-spare
returns-clause-spare c =
    let same : length c.raise_from.new.rows.items ≡ length c.self.inside.rows.items = ap length c.raise_from.ensures.rows ∙ length-changed_from (raised_row 1) c.self.inside.rows.items c.index_in-index.result in
    rw (← c.self.view_is) (omega (arith, same, c.raise_from.ensures.capacity))
