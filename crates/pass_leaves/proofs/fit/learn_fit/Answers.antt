use Rattle.pass_cells.specs.RuleModel.Places.{lines}
use Rattle.pass_leaves.proofs.FitLemmas.{index_fits}
use Rattle.pass_leaves.proofs.fit.learn_fit.Goals as goal

pub change-requires-clause-may : goal.change-requires-clause-may
change-requires-clause-may c heap =
    let z = c.args.store.now.accounts.config in
    let seat = c.args.pass.now.account in
    index_fits z (lines z.passes) heap seat.table_id.slots seat.id seat.me
