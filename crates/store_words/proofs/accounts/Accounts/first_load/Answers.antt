use Rattle.std.proofs.Common.{sym}
use Rattle.rule_model.specs.CellsModel.Reads.{first_loaded}
use Rattle.rule_model.specs.Places.{lines}
use Rattle.rule_model.specs.Sight.{with_found}
use Rattle.rule_model.specs.Steps.{Nothing}
use Rattle.rule_model.proofs.BlockStepLemmas.{read_begins}
use Rattle.store_words.proofs.StepLemmas.{at_place}
use Rattle.store_words.proofs.accounts.Accounts.first_load.Goals as goal

pub load_as-requires-clause-may : goal.load_as-requires-clause-may
load_as-requires-clause-may c heap =
    let z = c.args.self.now.config in
    let seat = c.args.seat.now in
    at_place z heap seat.table_id.slots seat.id seat.me _ _ (sym c.block_place-place.ensures.place)
    (λ n. with_found seat.me.0 (first_loaded c.args.cell n) c.args.cell n) Nothing
    (read_begins z (lines z.passes) heap seat.table_id.slots seat.id seat.me c.args.cell c.requires.cell)
