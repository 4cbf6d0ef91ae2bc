use Rattle.std.proofs.Common.{refl, sym}
use Rattle.rule_model.specs.CellsModel.Cells.{stored}
use Rattle.rule_model.specs.Places.{lines}
use Rattle.rule_model.proofs.BlockStepLemmas.{word_is_stored}
use Rattle.store_words.proofs.CellLemmas.{knows_cell, store_cell, tells_nothing}
use Rattle.store_words.proofs.accounts.Accounts.store_held.Goals as goal

pub store_as-requires-clause-may : goal.store_as-requires-clause-may
store_as-requires-clause-may c heap =
    let z = c.args.self.now.config in
    let seat = c.args.seat.now in
    let held = c.requires.held in
    store_cell z heap seat.table_id.slots seat.id seat.me c.args.block.cell
    (λ d. stored d c.args.word c.args.value) (λ d. Unit {0})
    held.0 held.1 _ _ _ _ (sym c.place_in-place.ensures.place) refl
    (tells_nothing z heap seat.table_id.slots seat.id seat.me _ _ _
    (word_is_stored z (lines z.passes) heap seat.table_id.slots seat.id seat.me c.args.block.cell c.args.word
    c.args.value held.0 held.1 c.requires.block.0 c.requires.word.0 c.requires.word.1 held.2))

pub returns : goal.returns
returns c = record {
  stored = λ d has. knows_cell c.args.seat.now c.store_as.new.seat c.args.block.cell
      (λ e. stored e c.args.word c.args.value) d has c.store_as.ensures.view;
}
