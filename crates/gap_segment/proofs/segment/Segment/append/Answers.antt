use Rattle.std.proofs.Common.{◌≡◌, ◌∙◌, sym, ap, arith, length-append}
use Rattle.gap_segment.specs.Fenced.{FencedRows}
use Rattle.gap_segment.proofs.FencedLemmas.{fenced_append}
use Rattle.gap_segment.proofs.segment.Segment.append.Goals as goal

pub invariant_of-self : goal.invariant_of-self
invariant_of-self c =
    let meet : c.self.inside.high ≡ c.right.inside.low = ap (λ (s : FencedRows). s.high) c.self.view_is ∙ c.requires.neighbours ∙ sym (ap (λ (s : FencedRows). s.low) c.right.view_is) in
    let half = rw (← c.self.view_is) at c.requires.room in
    let room = rw (← c.right.view_is) at half in
    (rw (c.copy_rows.ensures.rows, c.as_slice.ensures.value) (fenced_append _ _ c.self.invariant.0 c.right.invariant.0 meet), rw (c.copy_rows.ensures.rows, c.as_slice.ensures.value, length-append) room, omega arith)
