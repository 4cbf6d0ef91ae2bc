use Rattle.pass_steps.specs.RuleModel.Places.{lines}
use Rattle.pass_steps.specs.Passes.{pin_in}
use Rattle.pass_sweeps.specs.Sweeping.{index_in}
use Rattle.pass_sweeps.proofs.HandLemmas.{index_there}
use Rattle.pass_sweeps.proofs.LawLemmas.{sweeper_yields}
use Rattle.pass_sweeps.proofs.index.yield_index.Goals as goal

pub change-requires-clause-may : goal.change-requires-clause-may
change-requires-clause-may c heap =
    let z = c.args.store.now.accounts.config in
    let pass = c.args.pass.now in
    let seat = pass.account in
    let taken = c.requires.taken.3 in
    sweeper_yields z (lines z.passes) heap seat.table_id.slots seat.id seat.me pass.number
    (pin_in seat.me.0 pass.number) (index_in seat.me.0) taken.of.sight.pin
    (index_there seat.me.0 c.requires.taken.2 taken.index)
