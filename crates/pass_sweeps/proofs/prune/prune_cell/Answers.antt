use Rattle.std.proofs.Common.{◌≡◌, ◌∙◌, arith, subst, sym}
use Rattle.seat_views.proofs.NumberLemmas.{some_is}
use Rattle.pass_steps.specs.CellsModel.Cells.{unpacked}
use Rattle.pass_steps.specs.RuleModel.Sight.{HasCell, PinState}
use Rattle.epoch_reclaim.specs.Pinned.{horizon_of}
use Rattle.pass_steps.specs.StoreRelation.Passes.{PassState}
use Rattle.pass_steps.specs.StoreRule.Slots.{RestsAs}
use Rattle.pass_steps.specs.VersionSegment.Rows.{VersionedRows}
use Rattle.pass_steps.specs.Passes.{pin_of, state_of}
use Rattle.pass_sweeps.specs.Pruning.{HasCellOnly, IsPruned, IsUnpackedAs, stamps_seen}
use Rattle.pass_sweeps.proofs.CellLemmas.{cell_packed, cell_unpacked, own_self, own_state, pack_keeps, pruned_moves, self_found, unpack_keeps, unpacked_as}
use Rattle.pass_sweeps.proofs.HandLemmas.{finds_then}
use Rattle.pass_sweeps.proofs.prune.prune_cell.Goals as goal

pub prune_unpacked-went-requires-clause-taken : goal.prune_unpacked-went-requires-clause-taken
prune_unpacked-went-requires-clause-taken c =
    let store = c.args.store.now in
    let p0 = c.args.pass.now in
    let p1 = c.unpack-held.new.pass in
    let c0 = c.requires.taken.0 in
    let has = c.requires.taken.1 in
    let out = c.unpack-held.ensures in
    let lent = cell_unpacked store p0 p1 (state_of p0) (pin_of p0) c.args.held.cell c0 has (out.unpacked c0 has.cell) in
    let mine = own_self store p1 (state_of p0) (pin_of p0) c.args.held.cell (unpacked c0) 1 lent in (
      unpacked c0,
      subst (λ k. HasCellOnly store p1 (state_of p1) (pin_of p1) k (unpacked c0) 1) (sym out.held.0) mine,
      subst (IsUnpackedAs (unpacked c0) c.unpack-held.result.value) (sym (out.held.2 ∙ c.requires.unchanged))
          (unpacked_as c0 c.unpack-held.result.value (out.segment c0 has.cell) (out.untouched c0 has.cell)),
    )

pub returns-clause-pruned : goal.returns-clause-pruned
returns-clause-pruned c c' there =
    let store = c.args.store.now in
    let p0 = c.args.pass.now in
    let p1 = c.unpack-held.new.pass in
    let p2 = c.prune_unpacked-went.new.pass in
    let p3 = c.pack.new.pass in
    let c0 = c.requires.taken.0 in
    let has = c.requires.taken.1 in
    let out = c.unpack-held.ensures in
    let lends = out.unpacked c0 has.cell in
    let lent = cell_unpacked store p0 p1 (state_of p0) (pin_of p0) c.args.held.cell c0 has lends in
    let d = c.prune_unpacked-went.ensures.taken.0 in
    let held = c.prune_unpacked-went.ensures.taken.1 in
    let is = c.prune_unpacked-went.ensures.taken.2 in
    let number = c.prune_unpacked-went.ensures.held in
    let s1 = c.prune_unpacked-went.new.held.value in
    let room = held.buffers in
    let there_now : HasCell p2.account.me.0 c.prune_unpacked-went.new.held.cell d =
    subst (λ k. HasCell p2.account.me.0 k d) (sym number) held.cell in
    let again = c.pack.ensures.packed d there_now in
    let packed = cell_packed store p2 p3 (state_of p2) (pin_of p1) c.prune_unpacked-went.new.held.cell d
    c.pack.result.value
    (subst (λ k. HasCellOnly store p2 (state_of p2) (pin_of p1) k d 1) (sym number) held) again
    (c.pack.ensures.buffers (omega (arith, room))) in
    let mine = own_state store p3 (state_of p2) (pin_of p1) _ _ 0 packed in
    let same : c0 ≡ c' = some_is c0 c' (sym has.cell ∙ there) in
    let pruned = pruned_moves (stamps_seen (state_of p1)) (horizon_of c.args.sweep.now) c0.segment d.segment
    c.unpack-held.result.value s1 c.prune_unpacked-went.result c.prune_unpacked-went.ensures.pruned
    (out.segment c0 has.cell) is.same in (
      again.again.cell,
      subst (λ (x : PinState). HasCellOnly store p3 (state_of p3) x c.args.held.cell again.again.cell 0) lent.pin
          (subst (λ k. HasCellOnly store p3 (state_of p3) (pin_of p1) k again.again.cell 0)
          (number ∙ out.held.0) mine),
      again.again.packed,
      subst (λ (s : VersionedRows). RestsAs s c.pack.result.value) (sym again.again.segment) again.rests,
      subst (λ (u : PassState × VersionedRows × VersionedRows). IsPruned (stamps_seen u.0)
          (horizon_of c.args.sweep.now) u.1 u.2 c.prune_unpacked-went.result)
          (λ i. (lent.state i, (same i).segment, sym again.again.segment i)) pruned,
    )

pub returns-clause-same : goal.returns-clause-same
returns-clause-same c =
    let store = c.args.store.now in
    let p0 = c.args.pass.now in
    let p1 = c.unpack-held.new.pass in
    let p2 = c.prune_unpacked-went.new.pass in
    let p3 = c.pack.new.pass in
    let c0 = c.requires.taken.0 in
    let has = c.requires.taken.1 in
    let lends = c.unpack-held.ensures.unpacked c0 has.cell in
    let d = c.prune_unpacked-went.ensures.taken.0 in
    let held = c.prune_unpacked-went.ensures.taken.1 in
    let there_now : HasCell p2.account.me.0 c.prune_unpacked-went.new.held.cell d =
    subst (λ k. HasCell p2.account.me.0 k d) (sym c.prune_unpacked-went.ensures.held) held.cell in
    let again = c.pack.ensures.packed d there_now in
    finds_then p0 p2 p3
    (finds_then p0 p1 p2 (self_found store p0 p1 has.of (unpack_keeps p0 p1 c.args.held.cell (unpacked c0) lends))
    c.prune_unpacked-went.ensures.same)
    (self_found store p2 p3 held.of (pack_keeps p2 p3 _ d c.pack.result.value again))
