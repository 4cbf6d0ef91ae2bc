use Rattle.std.proofs.Common.{◌∙◌, sym, subst, ap}
use Rattle.seat_views.specs.Keeping.{kept_at}
use Rattle.rule_model.specs.CellsModel.Cells.{lowered_word, packed}
use Rattle.rule_model.specs.Places.{lines}
use Rattle.rule_model.specs.Sight.{HasCell, Sight}
use Rattle.rule_model.proofs.BlockStepLemmas.{cell_is_packed}
use Rattle.store_words.proofs.CellLemmas.{cell_stepped, knows_after, knows_cell, store_cell, tells_nothing}
use Rattle.store_words.proofs.accounts.Accounts.lower.Goals as goal

pub store_as-requires-clause-may : goal.store_as-requires-clause-may
store_as-requires-clause-may c heap =
    let z = c.args.self.now.config in
    let seat = c.holder_load-found.new.seat in
    let same = c.holder_load-found.ensures.same in
    let held = c.requires.held in
    let has : HasCell seat.me.0 c.args.cell held.0 =
    subst (λ (v : Sight). HasCell v c.args.cell held.0) (sym (ap (λ m. m.0) same.me)) held.1 in
    let found = c.holder_load-found.ensures.told held.0 held.1 in
    let word = c.lowered.ensures ∙ (λ t. lowered_word (sym held.3 t) (found t)) in
    store_cell z heap seat.table_id.slots seat.id seat.me c.args.cell packed (λ d. Unit {0})
    held.0 has _ _ _ _ (sym c.block_place-place.ensures.place) (sym word)
    (tells_nothing z heap seat.table_id.slots seat.id seat.me _ _ _
    (cell_is_packed z (lines z.passes) heap seat.table_id.slots seat.id seat.me c.args.cell held.0 has
    c.requires.cell held.2 held.4))

pub returns : goal.returns
returns c = record {
  packed = λ d has.
      knows_cell c.args.seat.now c.store_as.new.seat c.args.cell packed d has
      (knows_after c.args.seat.now c.holder_load-found.new.seat c.store_as.new.seat
      (λ v. cell_stepped packed v c.args.cell (kept_at v.cells c.args.cell)) c.holder_load-found.ensures.same
      c.store_as.ensures.view);
}
