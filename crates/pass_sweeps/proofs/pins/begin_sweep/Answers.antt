use Rattle.pass_steps.specs.RuleModel.Places.{lines}
use Rattle.pass_steps.specs.Passes.{pin_in, state_in}
use Rattle.pass_sweeps.proofs.LawLemmas.{other_sweep_is_behind}
use Rattle.pass_sweeps.proofs.pins.begin_sweep.Goals as goal

pub begin_as-requires-clause-may : goal.begin_as-requires-clause-may
begin_as-requires-clause-may c heap =
    let z = c.args.store.now.accounts.config in
    let pass = c.args.pass.now in
    let seat = pass.account in
    let of = c.requires.pass in
    other_sweep_is_behind z (lines z.passes) heap seat.table_id.slots seat.id seat.me pass.number
    (state_in seat.me.0 pass.number) (pin_in seat.me.0 pass.number) of.sight.has of.sight.pin
