use Rattle.std.proofs.Common.{◌∙◌, ◌∷◌, ◌+◌, [], ap, arith, length, length-append, subst, sym}
use Rattle.gap_segment.specs.Fenced.{FencedRows}
use Rattle.store_rule.specs.Buffers.{AreVacant}
use Rattle.store_rule.proofs.BufferLemmas.{vacant_more}
use Rattle.store_rule.proofs.buffers.Buffers.new.Goals as goal

pub rooms-preserved : goal.rooms-preserved
rooms-preserved c =
    let so_far = c.rooms.invariant in
    let items = c.in_ok-push.ensures.items in
    let room = so_far.2 in
    let capacity = c.in_ok-push.ensures.capacity in (
      subst AreVacant (sym items) (vacant_more c.rooms.free.items c.in_ok-room.room so_far.0
          (ap (λ (x : FencedRows). x.rows) c.in_ok-room.ensures)),
      ap length items ∙ length-append c.rooms.free.items (c.in_ok-room.room ∷ []) ∙ ap (λ n. n + 1) so_far.1,
      omega (arith, capacity, room),
    )
