use Rattle.std.proofs.Common.{◌<◌, length, ◌∙◌, sym, ap, arith, Some}
use Rattle.gap_segment.proofs.FencedLemmas.{fenced_remove, get_there}
use Rattle.gap_segment.proofs.segment.Segment.remove_at.Goals as goal

pub invariant_of-self : goal.invariant_of-self
invariant_of-self c = (rw c.remove.ensures.items (fenced_remove _ c.args.place c.self.invariant.0), omega arith, omega arith)

pub returns-clause-row : goal.returns-clause-row
returns-clause-row c =
    let there : c.args.place < length c.self.inside.rows.items = rw (← c.self.view_is) at c.requires in
    rw (← c.self.view_is) (get_there _ _ c.remove.result there ∙ ap Some (sym c.remove.ensures.value))
