use Rattle.pass_sweeps.specs.RuleModel.Places.{lines}
use Rattle.pass_sweeps.proofs.RuleModel.RowStepLemmas.{rows_are_stamped}
use Rattle.pass_sweeps.specs.PassSteps.Passes.{state_in}
use Rattle.pass_sweeps.specs.Pruning.{cell_in, news_of}
use Rattle.pass_settles.specs.Settled.{stamped_in}
use Rattle.pass_sweeps.specs.VersionSegment.Settling.{stamped_segment}
use Rattle.pass_settles.proofs.cell.know_stamped.Goals as goal

pub change-requires-clause-may : goal.change-requires-clause-may
change-requires-clause-may c heap =
    let z = c.args.store.now.accounts.config in
    let pass = c.args.pass.now in
    let seat = pass.account in
    let v = seat.me.0 in
    rows_are_stamped z (lines z.passes) heap seat.table_id.slots seat.id seat.me pass.number (state_in v pass.number)
    (stamped_in v pass.number c.args.cell).unstamped c.requires.may.0 c.requires.may.1
    (news_of v c.args.cell (stamped_segment c.args.by c.args.stamp (cell_in v c.args.cell).segment)) c.requires.may.2
