use Rattle.store_rule.specs.RuleModel.Places.{lines}
use Rattle.pass_steps.specs.Passes.{state_in}
use Rattle.pass_steps.proofs.NoteLemmas.{later_may_be_noted}
use Rattle.pass_steps.proofs.notes.note_later.Goals as goal

pub change-requires-clause-may : goal.change-requires-clause-may
change-requires-clause-may c heap =
    let z = c.args.store.now.accounts.config in
    let pass = c.args.pass.now in
    let seat = pass.account in
    later_may_be_noted z (lines z.passes) heap seat.table_id.slots seat.id seat.me pass.number
    (state_in seat.me.0 pass.number) c.args.write c.args.stamp c.requires.pass.sight.has c.requires.meets
