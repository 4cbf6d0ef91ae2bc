use Rattle.std.proofs.Common.{◌≡◌, ◌<◌, ◌+◌, ◌∙◌, ◌∷◌, ℕ, [], ap, arith, refl, subst, sym}
use Rattle.atomic_table.specs.Seated.{TableId}
use Rattle.txn_manager.specs.declared.config.Config.{Config}
use Rattle.latch_table.specs.Latched.{IsPassOf, number_of}
use Rattle.store_rule.specs.RuleModel.Sight.{cells_of}
use Rattle.store_rule.specs.Slots.{FitsPlace, IsCellSlot}
use Rattle.store_rule.specs.declared.slot.StoreSlot.TheVariants as slots
use Rattle.cases_store.proofs.VisitLemmas.{fits_cell, still_at_ease}
use Rattle.cases_store.proofs.cell.visit.Goals as goal

pub take-held-requires-clause-pass : goal.take-held-requires-clause-pass
take-held-requires-clause-pass g c = rw c.cells-cells.ensures c.requires.pass.back.latch.of

pub take-held-requires-clause-cell : goal.take-held-requires-clause-cell
take-held-requires-clause-cell g c =
    let places = c.args.store.now.places in
    let less = c.requires.cell in
    rw c.cells-cells.ensures (omega (arith, places, less))

pub change_cell-held-requires-clause-table : goal.change_cell-held-requires-clause-table
change_cell-held-requires-clause-table g c = c.requires.pass.back.account

pub change_cell-held-requires-clause-cell : goal.change_cell-held-requires-clause-cell
change_cell-held-requires-clause-cell g c =
    subst (λ k. k < cells_of c.args.store.now.accounts.config) (sym c.take-held.ensures.held.0) c.requires.cell

pub change_cell-held-requires-clause-slot : goal.change_cell-held-requires-clause-slot
change_cell-held-requires-clause-slot g c =
    let fits = (rw c.cells-cells.ensures at c.take-held.ensures.held).2 in
    let same = c.args.store.now.same in
    let less = subst (λ (z : Config). c.args.cell < cells_of z) (sym same.0) c.requires.cell in
    subst (λ (x : TableId × ℕ). IsCellSlot x.0 x.1 c.take-held.result.value)
    (λ i. (same.1 i, sym c.take-held.ensures.held.0 i)) (fits.cell less)

pub change_cell-held-requires-clause-buffers : goal.change_cell-held-requires-clause-buffers
change_cell-held-requires-clause-buffers g c = let full = c.requires.pass.buffers in omega (arith, full)

pub give-requires-clause-pass : goal.give-requires-clause-pass
give-requires-clause-pass g c =
    subst (IsPassOf _ _ _) (sym c.change_cell-held.ensures.latch) c.take-held.ensures.pass

pub give-requires-clause-cell : goal.give-requires-clause-cell
give-requires-clause-cell g c =
    let places = c.args.store.now.places in
    let less = c.requires.cell in
    let same = c.change_cell-held.ensures.held ∙ c.take-held.ensures.held.0 in
    rw c.cells-cells.ensures (omega (arith, places, less, same))

pub give-requires-clause-holds : goal.give-requires-clause-holds
give-requires-clause-holds g c =
    let same = c.change_cell-held.ensures.held ∙ c.take-held.ensures.held.0 in
    let none = c.requires.pass.back.latch.none in
    ap (λ l. l.me.1) c.change_cell-held.ensures.latch ∙ c.take-held.ensures.slots
    ∙ (λ i. (sym same i, slots.Out) ∷ none i)

pub give-requires-clause-fits : goal.give-requires-clause-fits
give-requires-clause-fits g c =
    let same = c.change_cell-held.ensures.held ∙ c.take-held.ensures.held.0 in
    let less = subst (λ k. k < cells_of c.args.store.now.accounts.config) (sym same) c.requires.cell in
    let slot = subst (λ k. IsCellSlot c.args.store.now.accounts.table.shared.table_id k c.change_cell-held.result.value)
    (sym c.change_cell-held.ensures.held) c.change_cell-held.ensures.slot in
    rw c.cells-cells.ensures (fits_cell c.args.store.now c.change_cell-held.result.cell
    c.change_cell-held.result.value less slot)

pub returns : goal.returns
returns g c =
    let kept = c.change_cell-held.ensures.kept in
    let old = c.args.pass.now in
    let mid = c.change_cell-held.new.pass in
    let released = c.give.ensures.released in
    still_at_ease c.args.store.now old mid (record mid { latch = c.give.new.pass }) c.requires.pass (record {
      buffers = kept.buffers;
      table = kept.table;
      slots = kept.slots;
      passes = kept.passes;
      readers = kept.readers;
    }) refl refl (record { of = rw c.cells-cells.ensures at c.give.ensures.pass; none = ap (λ m. m.1) released })
    (ap (λ m. number_of m.0) released ∙ ap (λ l. number_of l.me.0) c.change_cell-held.ensures.latch
    ∙ c.take-held.ensures.number)
