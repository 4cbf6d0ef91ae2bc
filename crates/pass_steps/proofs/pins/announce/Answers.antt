use Rattle.std.specs.Prelude.{true}
use Rattle.store_rule.specs.RuleModel.Places.{lines}
use Rattle.store_rule.specs.RuleModel.Sight.{with_pin}
use Rattle.store_rule.proofs.RuleModel.PinStepLemmas.{pass_announces}
use Rattle.store_rule.proofs.StoreWords.CellLemmas.{tells_nothing}
use Rattle.pass_steps.specs.Passes.{pin_in, state_in}
use Rattle.pass_steps.proofs.pins.announce.Goals as goal

pub announce_as-requires-clause-may : goal.announce_as-requires-clause-may
announce_as-requires-clause-may c heap =
    let z = c.args.store.now.accounts.config in
    let pass = c.args.pass.now in
    let seat = pass.account in
    let x = pin_in seat.me.0 pass.number in
    let of = c.requires.pass in
    tells_nothing z heap seat.table_id.slots seat.id seat.me ((lines z.passes).pin pass.number) _
    (with_pin seat.me.0 pass.number (record x { announced = true }))
    (pass_announces z (lines z.passes) heap seat.table_id.slots seat.id seat.me pass.number (state_in seat.me.0 pass.number) x
    of.sight.has of.sight.pin c.requires.stage of.inside)
