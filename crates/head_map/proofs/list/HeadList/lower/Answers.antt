use Rattle.head_map.proofs.PlaceLemmas.{lower_placed, lower_heads, placed_above}
use Rattle.head_map.proofs.list.HeadList.lower.Goals as goal

pub lower_from-requires-clause-high : goal.lower_from-requires-clause-high
lower_from-requires-clause-high c = placed_above c.args.by c.self.inside.rows.items c.self.invariant (rw (← c.self.view_is) at c.requires)

pub invariant_of-self : goal.invariant_of-self
invariant_of-self c = rw c.lower_from.ensures.rows (lower_placed c.self.inside.rows.items c.args.by (placed_above c.args.by c.self.inside.rows.items c.self.invariant (rw (← c.self.view_is) at c.requires)) c.self.invariant)

pub returns-clause-heads : goal.returns-clause-heads
returns-clause-heads c = rw (c.lower_from.ensures.rows, ← c.self.view_is) (lower_heads c.self.inside.rows.items c.args.by (placed_above c.args.by c.self.inside.rows.items c.self.invariant (rw (← c.self.view_is) at c.requires)))
