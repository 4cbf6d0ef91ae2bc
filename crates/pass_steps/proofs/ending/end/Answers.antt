use Rattle.std.proofs.Common.{refl, sym}
use Rattle.std.specs.Prelude.{None}
use Rattle.store_rule.specs.StoreRelation.Steps.{ended}
use Rattle.store_rule.specs.RuleModel.Places.{lines}
use Rattle.store_rule.specs.RuleModel.Sight.{with_pass}
use Rattle.store_rule.proofs.RuleModel.TxnLemmas.{transaction_ends}
use Rattle.pass_steps.specs.Passes.{state_in}
use Rattle.pass_steps.proofs.StepLemmas.{stores_quietly}
use Rattle.pass_steps.proofs.ending.end.Goals as goal

pub store_as-requires-clause-may : goal.store_as-requires-clause-may
store_as-requires-clause-may c heap =
    let z = c.args.store.now.accounts.config in
    let pass = c.args.pass.now in
    let seat = pass.account in
    let st = state_in seat.me.0 pass.number in
    stores_quietly z heap seat.table_id.slots seat.id seat.me _ _ _ _ (sym c.pass_place-place.ensures.place) refl
    (with_pass seat.me.0 pass.number (ended st None))
    (transaction_ends z (lines z.passes) heap seat.table_id.slots seat.id seat.me pass.number st
    c.requires.pass.sight.has c.requires.stage c.requires.laid)
