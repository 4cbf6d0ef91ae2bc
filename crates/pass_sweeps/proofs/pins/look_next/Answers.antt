use Rattle.pass_steps.specs.RuleModel.Places.{lines}
use Rattle.pass_steps.proofs.RuleModel.PinStepLemmas.{sweep_looks_step}
use Rattle.pass_steps.specs.Passes.{pin_in}
use Rattle.pass_sweeps.proofs.pins.look_next.Goals as goal

pub look_as-requires-clause-may : goal.look_as-requires-clause-may
look_as-requires-clause-may c heap =
    let z = c.args.store.now.accounts.config in
    let pass = c.args.pass.now in
    let seat = pass.account in
    sweep_looks_step z (lines z.passes) heap seat.table_id.slots seat.id seat.me pass.number
    (pin_in seat.me.0 pass.number) c.args.sweep.now c.requires.pass.sight.pin c.requires.sweeps c.requires.left
