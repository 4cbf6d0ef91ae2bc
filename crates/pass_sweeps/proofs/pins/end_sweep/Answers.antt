use Rattle.pass_steps.specs.RuleModel.Places.{lines}
use Rattle.pass_steps.proofs.RuleModel.PinStepLemmas.{other_sweep_ends_step}
use Rattle.pass_steps.specs.Passes.{pin_in}
use Rattle.pass_sweeps.proofs.pins.end_sweep.Goals as goal

pub change-requires-clause-may : goal.change-requires-clause-may
change-requires-clause-may c heap =
    let z = c.args.store.now.accounts.config in
    let pass = c.args.pass.now in
    let seat = pass.account in
    other_sweep_ends_step z (lines z.passes) heap seat.table_id.slots seat.id seat.me pass.number
    (pin_in seat.me.0 pass.number) c.requires.pass.sight.pin
