use Rattle.std.proofs.Common.{◌<◌, ◌≤◌, length, arith}
use Rattle.std.proofs.lemmas.List.Edits.{length-insert}
use Rattle.gap_segment.proofs.FencedLemmas.{fenced_insert}
use Rattle.gap_segment.proofs.segment.Segment.insert_at.Goals as goal

pub invariant_of-self : goal.invariant_of-self
invariant_of-self c =
    let gap = rw (← c.self.view_is) at c.requires.gap in
    let within = rw (← c.self.view_is) at c.requires.within in
    let room : length c.self.inside.rows.items < 32 = rw (← c.self.view_is) at c.requires.room in
    let at : c.args.place ≤ length c.self.inside.rows.items = gap.within in (
      rw c.in-Ok.ensures.items (fenced_insert _ c.args.place c.args.row c.self.invariant.0 gap within),
      rw (c.in-Ok.ensures.items, length-insert) (omega arith),
      omega (arith, c.in-Ok.ensures.capacity),
    )
