use Rattle.std.proofs.Common.{arith}
use Rattle.head_map.proofs.PlaceLemmas.{raise_placed, raise_heads, room_above}
use Rattle.head_map.proofs.list.HeadList.raise.Goals as goal

pub raise_from-requires-clause-byte : goal.raise_from-requires-clause-byte
raise_from-requires-clause-byte c = room_above 128 c.args.by c.self.inside.rows.items (omega arith) c.self.invariant (rw (← c.self.view_is) at c.requires.low)

pub invariant_of-self : goal.invariant_of-self
invariant_of-self c = rw c.raise_from.ensures.rows (raise_placed c.self.inside.rows.items c.args.by c.self.invariant)

pub returns-clause-heads : goal.returns-clause-heads
returns-clause-heads c = rw (c.raise_from.ensures.rows, ← c.self.view_is) (raise_heads c.self.inside.rows.items c.args.by)
