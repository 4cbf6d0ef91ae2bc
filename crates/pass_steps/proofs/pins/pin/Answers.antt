use Rattle.std.proofs.Common.{ap, refl, sym}
use Rattle.std.specs.Prelude.{false}
use Rattle.epoch_reclaim.specs.Pinned.{pinned_word}
use Rattle.store_rule.specs.RuleModel.Places.{lines}
use Rattle.store_rule.specs.RuleModel.Sight.{with_pin}
use Rattle.store_rule.proofs.RuleModel.PinStepLemmas.{pass_pins}
use Rattle.pass_steps.specs.Passes.{pin_in, state_in}
use Rattle.pass_steps.proofs.StepLemmas.{stores_quietly}
use Rattle.pass_steps.proofs.pins.pin.Goals as goal

pub pin_as-requires-clause-may : goal.pin_as-requires-clause-may
pin_as-requires-clause-may c heap =
    let z = c.args.store.now.accounts.config in
    let pass = c.args.pass.now in
    let seat = pass.account in
    let x = pin_in seat.me.0 pass.number in
    let of = c.requires.pass in
    stores_quietly z heap seat.table_id.slots seat.id seat.me _ ((lines z.passes).pin pass.number) _ _ refl
    (ap pinned_word (sym c.requires.start.0))
    (with_pin seat.me.0 pass.number (record x { announced = false }))
    (pass_pins z (lines z.passes) heap seat.table_id.slots seat.id seat.me pass.number (state_in seat.me.0 pass.number) x
    of.sight.has of.sight.pin c.requires.stage of.inside)
