use Rattle.std.specs.Prelude.{false}
use Rattle.std.proofs.Common.{◌∙◌, List, ◌∷◌, ◌<◌, [], ap, arith, length, length-append, subst, sym}
use Rattle.std.specs.Vec.{vec_len}
use Rattle.latch_table.specs.declared.cells.Held.{Held}
use Rattle.pass_cells.specs.StoreRuleDeclared.slot.StoreSlot.{StoreSlot}
use Rattle.pass_cells.specs.declared.taken.TakenCell.{TakenCell}
use Rattle.pass_cells.proofs.DoneLemmas.{head_is, not_none, rest_is}
use Rattle.pass_leaves.specs.Hand.{IsUnpacking}
use Rattle.pass_leaves.proofs.UnpackLemmas.{unpacking_more}
use Rattle.pass_leaves.proofs.unpack.unpack_all.Goals as goal

pub places-preserved : goal.places-preserved
places-preserved c =
    let packed = c.places.packed.items in
    let h = c.remove-held.result in
    let full = not_none (vec_len c.places.packed) (sym c.is_empty.ensures ∙ c.places-test.true) in
    let some : 0 < length packed = omega (arith, full) in
    let is = head_is packed h some c.remove-held.ensures.value in
    let un = subst (λ l. IsUnpacking c.args.store.now c.args.pass.now c.places.pass c.args.packed.now.items l
    c.places.cells.items) is c.places.invariant.0 in
    let t : TakenCell = record { held = c.gather-held.result; rows = c.len-rows.result; words_changed = false } in
    let more = unpacking_more c.args.store.now c.args.pass.now c.places.pass c.gather-held.new.pass
    c.args.packed.now.items _ c.places.cells.items h t un c.requires.once c.gather-held.ensures.held.0
    c.gather-held.ensures.gathered c.len-rows.ensures.sound c.len-rows.ensures.len in
    let pushed = c.in-Ok.ensures.items in
    let one_more = ap length pushed ∙ length-append c.places.cells.items (t ∷ []) in
    let one_less = ap length is in
    let left = ap length (c.remove-held.ensures.items ∙ rest_is packed) in
    let bound = c.places.invariant.1 in
    let cap = c.remove-held.ensures.capacity in
    let cap_before = c.places.invariant.2 in
    let cap_pushed = c.push.ensures.capacity in
    let room = c.places.invariant.3 in
    let room_before = c.places.invariant.4 in (
      subst (λ (x : List (Held StoreSlot) × List TakenCell). IsUnpacking c.args.store.now c.args.pass.now
          c.gather-held.new.pass c.args.packed.now.items x.0 x.1)
          (λ i. (sym (c.remove-held.ensures.items ∙ rest_is packed) i, sym pushed i)) more,
      omega (arith, one_more, one_less, left, bound),
      omega (arith, cap, cap_before),
      omega (arith, cap_pushed, room),
      omega (arith, cap_pushed, room_before),
    )
