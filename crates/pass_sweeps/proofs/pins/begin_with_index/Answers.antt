use Rattle.std.proofs.Common.{◌∙◌, ap}
use Rattle.pass_steps.specs.RuleModel.Places.{lines}
use Rattle.pass_steps.specs.RuleModel.Sight.{IndexState}
use Rattle.pass_steps.specs.Passes.{pin_in, state_in}
use Rattle.pass_sweeps.specs.Sweeping.{index_in}
use Rattle.pass_sweeps.proofs.HandLemmas.{index_is, index_there}
use Rattle.pass_sweeps.proofs.LawLemmas.{sweeper_is_behind}
use Rattle.pass_sweeps.proofs.pins.begin_with_index.Goals as goal

pub begin_as-requires-clause-may : goal.begin_as-requires-clause-may
begin_as-requires-clause-may c heap =
    let z = c.args.store.now.accounts.config in
    let pass = c.args.pass.now in
    let seat = pass.account in
    let y = c.requires.taken.2 in
    let taken = c.requires.taken.3 in
    sweeper_is_behind z (lines z.passes) heap seat.table_id.slots seat.id seat.me pass.number
    (state_in seat.me.0 pass.number) (pin_in seat.me.0 pass.number) (index_in seat.me.0) taken.of.sight.has
    taken.of.sight.pin (index_there seat.me.0 y taken.index)
    (ap (λ (u : IndexState). u.sweeper) (index_is seat.me.0 y taken.index) ∙ c.requires.taken.4)
