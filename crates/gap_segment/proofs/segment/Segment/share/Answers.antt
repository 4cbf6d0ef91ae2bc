use Rattle.std.proofs.Common.{◌≡◌, ◌∙◌, ℕ, ◌+◌, ◌-◌, ◌<◌, ◌≤◌, sym, ap, arith, length-append, length-take, length-drop}
use Rattle.gap_segment.specs.Fenced.{FencedRows}
use Rattle.gap_segment.proofs.FencedLemmas.{fenced_append, fenced_front, fenced_back}
use Rattle.gap_segment.proofs.segment.Segment.share.Goals as goal

-- the rows that stand there, and no more where some come
few_left : (has count : ℕ) → has ≤ 32 → (has < count → count ≤ 32) → count ≤ 32
few_left has count few room = grind (arith, few, room)

few_right : (left right count : ℕ) → right ≤ 32 → (count < left → left + right ≤ count + 32) → left + right - count ≤ 32
few_right left right count few room = grind (arith, few, room)

pub invariant_of-self : goal.invariant_of-self
invariant_of-self c =
    let meet : c.self.inside.high ≡ c.right.inside.low = ap (λ (s : FencedRows). s.high) c.self.view_is ∙ c.requires.neighbours ∙ sym (ap (λ (s : FencedRows). s.low) c.right.view_is) in
    let whole = fenced_append _ _ c.self.invariant.0 c.right.invariant.0 meet in
    let cut = rw (c.as_slice.ensures.value, c.share_rows.ensures.right) at c.first_key-cut.ensures in
    let room = rw (← c.self.view_is) at c.requires.room in
    let few = few_left _ _ (omega arith) room in
    (rw c.share_rows.ensures.left (fenced_front _ c.args.count c.first_key-cut.result whole cut), rw (c.share_rows.ensures.left, length-take) (omega (arith, few)), omega arith)

pub invariant_of-right : goal.invariant_of-right
invariant_of-right c =
    let meet : c.self.inside.high ≡ c.right.inside.low = ap (λ (s : FencedRows). s.high) c.self.view_is ∙ c.requires.neighbours ∙ sym (ap (λ (s : FencedRows). s.low) c.right.view_is) in
    let whole = fenced_append _ _ c.self.invariant.0 c.right.invariant.0 meet in
    let cut = rw (c.as_slice.ensures.value, c.share_rows.ensures.right) at c.first_key-cut.ensures in
    let half = rw (← c.self.view_is) at c.requires.right_room in
    let room = rw (← c.right.view_is) at half in
    let few = few_right _ _ c.args.count (omega arith) room in
    (rw c.share_rows.ensures.right (fenced_back _ c.args.count c.first_key-cut.result whole cut), rw (c.share_rows.ensures.right, length-drop, length-append) few, omega arith)
