use Rattle.std.proofs.Common.{◌∙◌, sym, subst, ap}
use Rattle.seat_views.specs.Keeping.{kept_at}
use Rattle.rule_model.specs.CellsModel.Cells.{raised_word, unpacked}
use Rattle.rule_model.specs.CellsModel.Words.{Spells}
use Rattle.rule_model.specs.Places.{lines}
use Rattle.rule_model.specs.Sight.{HasCell, Sight}
use Rattle.rule_model.proofs.BlockStepLemmas.{cell_is_unpacked}
use Rattle.store_words.proofs.CellLemmas.{cell_stepped, knows_after, knows_cell, store_cell}
use Rattle.store_words.proofs.accounts.Accounts.raise.Goals as goal

pub store_as-requires-clause-may : goal.store_as-requires-clause-may
store_as-requires-clause-may c heap =
    let z = c.args.self.now.config in
    let seat = c.holder_load-found.new.seat in
    let same = c.holder_load-found.ensures.same in
    let held = c.requires.held in
    let has : HasCell seat.me.0 c.args.cell held.0 =
    subst (λ (v : Sight). HasCell v c.args.cell held.0) (sym (ap (λ m. m.0) same.me)) held.1 in
    let word = c.raised.ensures ∙ ap raised_word (c.holder_load-found.ensures.told held.0 held.1) in
    store_cell z heap seat.table_id.slots seat.id seat.me c.args.cell unpacked (λ d. Spells d.block d.segment)
    held.0 has _ _ _ _ (sym c.block_place-place.ensures.place) (sym word)
    (cell_is_unpacked z (lines z.passes) heap seat.table_id.slots seat.id seat.me c.args.cell held.0 has
    c.requires.cell held.2)

pub returns-clause-unpacked : goal.returns-clause-unpacked
returns-clause-unpacked c d has =
    knows_cell c.args.seat.now c.store_as.new.seat c.args.cell unpacked d has
    (knows_after c.args.seat.now c.holder_load-found.new.seat c.store_as.new.seat
    (λ v. cell_stepped unpacked v c.args.cell (kept_at v.cells c.args.cell)) c.holder_load-found.ensures.same
    c.store_as.ensures.view)

pub returns-clause-told : goal.returns-clause-told
returns-clause-told c d has =
    c.store_as.ensures.told d (subst (λ (v : Sight). HasCell v c.args.cell d)
    (sym (ap (λ m. m.0) c.holder_load-found.ensures.same.me)) has)
