use Rattle.pass_steps.specs.RuleModel.Places.{lines}
use Rattle.pass_sweeps.specs.Sweeping.{index_in}
use Rattle.pass_sweeps.proofs.HandLemmas.{index_there}
use Rattle.pass_sweeps.proofs.LawLemmas.{leaves_are_known}
use Rattle.pass_sweeps.proofs.index.learn_leaves.Goals as goal

pub change-requires-clause-may : goal.change-requires-clause-may
change-requires-clause-may c heap =
    let z = c.args.store.now.accounts.config in
    let seat = c.args.pass.now.account in
    leaves_are_known z (lines z.passes) heap seat.table_id.slots seat.id seat.me (index_in seat.me.0)
    (index_there seat.me.0 c.requires.taken.2 c.requires.taken.3.index)
