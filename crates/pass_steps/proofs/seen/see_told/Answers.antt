use Rattle.store_rule.specs.RuleModel.Places.{lines}
use Rattle.store_rule.proofs.RuleModel.TxnLemmas.{passes_meet}
use Rattle.pass_steps.specs.Passes.{state_in}
use Rattle.pass_steps.proofs.seen.see_told.Goals as goal

pub change-requires-clause-may : goal.change-requires-clause-may
change-requires-clause-may c heap =
    let z = c.args.store.now.accounts.config in
    let pass = c.args.pass.now in
    let seat = pass.account in
    passes_meet z (lines z.passes) heap seat.table_id.slots seat.id seat.me pass.number
    (state_in seat.me.0 pass.number) c.requires.pass
