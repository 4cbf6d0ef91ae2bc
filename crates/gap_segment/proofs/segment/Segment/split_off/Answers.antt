use Rattle.std.proofs.Common.{◌≡◌, ◌∙◌, [], ap, arith, length-take, length-drop}
use Rattle.gap_segment.specs.Fenced.{FencedRows}
use Rattle.gap_segment.proofs.FencedLemmas.{fenced_front, fenced_back}
use Rattle.gap_segment.proofs.segment.Segment.split_off.Goals as goal

pub invariant_of-self : goal.invariant_of-self
invariant_of-self c =
    let cut = rw (c.split_at.ensures.back, c.as_slice.ensures.value) at c.first_key-cut.ensures in (
      rw c.truncate.ensures.items (fenced_front _ c.args.place c.first_key-cut.result c.self.invariant.0 cut),
      rw (c.truncate.ensures.items, length-take) (omega arith),
      omega arith,
    )

pub invariant_of-right : goal.invariant_of-right
invariant_of-right c =
    let cut = rw (c.split_at.ensures.back, c.as_slice.ensures.value) at c.first_key-cut.ensures in
    let empty : c.right.inside.rows.items ≡ [] = ap (λ (s : FencedRows). s.rows) c.right.view_is ∙ c.requires.empty in
    let moved = rw (empty, c.split_at.ensures.back, c.as_slice.ensures.value) at c.copy_rows.ensures.rows in (
      rw moved (fenced_back _ c.args.place c.first_key-cut.result c.self.invariant.0 cut),
      rw (moved, length-drop) (omega arith),
      omega arith,
    )
