use Rattle.std.proofs.Common.{◌∙◌, List, ◌∷◌, ◌<◌, [], ap, arith, length, length-append, subst, sym}
use Rattle.std.specs.Vec.{vec_len}
use Rattle.row_writes.specs.VersionSegment.Rows.{VersionedRows}
use Rattle.store_rule.specs.RuleModel.Sight.{HasCell}
use Rattle.store_rule.specs.Passes.{OnlyAccount}
use Rattle.store_rule.specs.Slots.{IsCellSlot, RestsAs}
use Rattle.store_rule.specs.StoreWords.Notes.{without_cell}
use Rattle.pass_cells.specs.Holding.{IsPutting}
use Rattle.latch_table.specs.declared.cells.Held.{Held}
use Rattle.store_rule.specs.declared.slot.StoreSlot.{StoreSlot}
use Rattle.pass_cells.specs.declared.taken.TakenCell.{TakenCell}
use Rattle.pass_cells.proofs.DoneLemmas.{head_is, not_none, rest_is}
use Rattle.pass_cells.proofs.PutLemmas.{putting_more}
use Rattle.pass_cells.proofs.put_back.pack_all.Goals as goal

pub lay_cell-held-requires-clause-table : goal.lay_cell-held-requires-clause-table
lay_cell-held-requires-clause-table c =
    let taken = c.cells.taken.list.items in
    let full = not_none (vec_len c.cells.taken.list) (sym c.is_empty.ensures ∙ c.cells-test.true) in
    let some : 0 < length taken = omega (arith, full) in
    let is = head_is taken c.remove-held.result some c.remove-held.ensures.value in
    let putting = subst (λ l. IsPutting c.args.store.now c.args.pass.now c.cells.pass c.args.taken.now.list.items l
    c.cells.packed.items) is c.cells.invariant.0 in
    let pack = c.pack-held.ensures.packed putting.known.0.state putting.known.0.has in
    pack.account.table ∙ putting.table

pub lay_cell-held-requires-clause-packed : goal.lay_cell-held-requires-clause-packed
lay_cell-held-requires-clause-packed c =
    let taken = c.cells.taken.list.items in
    let full = not_none (vec_len c.cells.taken.list) (sym c.is_empty.ensures ∙ c.cells-test.true) in
    let some : 0 < length taken = omega (arith, full) in
    let is = head_is taken c.remove-held.result some c.remove-held.ensures.value in
    let putting = subst (λ l. IsPutting c.args.store.now c.args.pass.now c.cells.pass c.args.taken.now.list.items l
    c.cells.packed.items) is c.cells.invariant.0 in
    let pack = c.pack-held.ensures.packed putting.known.0.state putting.known.0.has in (
      pack.again.cell,
      subst (λ k. HasCell c.pack-held.new.pass.account.me.0 k pack.again.cell)
          (sym c.pack-held.ensures.held.0) pack.again.has,
      pack.again.packed,
      subst (λ (s : VersionedRows). RestsAs s c.pack-held.result.value) (sym pack.again.segment) pack.rests,
    )

pub cells-preserved : goal.cells-preserved
cells-preserved c =
    let taken = c.cells.taken.list.items in
    let t = c.remove-held.result in
    let full = not_none (vec_len c.cells.taken.list) (sym c.is_empty.ensures ∙ c.cells-test.true) in
    let some : 0 < length taken = omega (arith, full) in
    let is = head_is taken t some c.remove-held.ensures.value in
    let putting = subst (λ l. IsPutting c.args.store.now c.args.pass.now c.cells.pass c.args.taken.now.list.items l
    c.cells.packed.items) is c.cells.invariant.0 in
    let pack = c.pack-held.ensures.packed putting.known.0.state putting.known.0.has in
    let number = c.pack-held.ensures.held.0 in
    let lay = subst (λ k. OnlyAccount c.pack-held.new.pass c.lay_cell-held.new.pass
    (without_cell k c.pack-held.new.pass.account.me.0)) number c.lay_cell-held.ensures.left in
    let slot = subst (λ k. IsCellSlot c.args.store.now.accounts.table.shared.table_id k c.lay_cell-held.result.value)
    number c.lay_cell-held.ensures.slot in
    let more = putting_more c.args.store.now c.args.pass.now c.cells.pass c.pack-held.new.pass
    c.lay_cell-held.new.pass c.args.taken.now.list.items _ t c.cells.packed.items c.pack-held.result.value
    c.lay_cell-held.result
    putting pack c.pack-held.ensures.buffers lay (c.lay_cell-held.ensures.held.0 ∙ number) slot in
    let pushed = c.in-Ok.ensures.items in
    let one_more = ap length pushed ∙ length-append c.cells.packed.items (c.lay_cell-held.result ∷ []) in
    let one_less = ap length is in
    let left = ap length (c.remove-held.ensures.items ∙ rest_is taken) in
    let bound = c.cells.invariant.1 in
    let cap = c.remove-held.ensures.capacity in
    let cap_before = c.cells.invariant.2 in
    let cap_pushed = c.push.ensures.capacity in
    let room = c.cells.invariant.3 in
    let room_before = c.cells.invariant.4 in (
      subst (λ (x : List TakenCell × List (Held StoreSlot)). IsPutting c.args.store.now c.args.pass.now
          c.lay_cell-held.new.pass c.args.taken.now.list.items x.0 x.1)
          (λ i. (sym (c.remove-held.ensures.items ∙ rest_is taken) i, sym pushed i)) more,
      omega (arith, one_more, one_less, left, bound),
      omega (arith, cap, cap_before),
      omega (arith, cap_pushed, room),
      omega (arith, cap_pushed, room_before),
    )
