use Rattle.std.proofs.Common.{◌≡◌, sym}
use Rattle.std.specs.Prelude.{slice_index}
use Rattle.rule_model.specs.CellsModel.Cells.{CellState}
use Rattle.rule_model.specs.Places.{lines}
use Rattle.rule_model.specs.Sight.{HasCell}
use Rattle.rule_model.proofs.BlockStepLemmas.{holder_loads}
use Rattle.store_words.proofs.StepLemmas.{at_place}
use Rattle.store_words.proofs.accounts.Accounts.load_held.Goals as goal

pub load_as-requires-clause-may : goal.load_as-requires-clause-may
load_as-requires-clause-may c heap =
    let z = c.args.self.now.config in
    let seat = c.args.seat.now in
    let law = holder_loads z (lines z.passes) heap seat.table_id.slots seat.id seat.me c.args.block.cell c.args.word in
    let inside = c.requires.block.0 in
    at_place z heap seat.table_id.slots seat.id seat.me _ _ (sym c.place_in-place.ensures.place)
    (λ n. seat.me.0) (λ n. (d : CellState) → HasCell seat.me.0 c.args.block.cell d → n ≡ slice_index d.block c.args.word)
    (λ s r homes here small.
    let x = law c.requires.held.0 c.requires.held.1 inside c.requires.word s r homes here small in (
      x.0,
      x.1,
      x.2,
      x.3,
      (x.4.0, λ d has. (law d has inside c.requires.word s r homes here small).4.1),
    ))
