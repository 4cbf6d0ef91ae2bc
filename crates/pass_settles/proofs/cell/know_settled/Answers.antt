use Rattle.pass_sweeps.specs.RuleModel.Places.{lines}
use Rattle.pass_sweeps.specs.PassSteps.Passes.{pin_of, state_of}
use Rattle.pass_sweeps.specs.Pruning.{cell_in, news_of}
use Rattle.pass_sweeps.proofs.LawLemmas.{rows_are_pruned_as_seen}
use Rattle.pass_sweeps.specs.VersionSegment.Settling.{settled_segment}
use Rattle.pass_settles.proofs.cell.know_settled.Goals as goal

pub change-requires-clause-may : goal.change-requires-clause-may
change-requires-clause-may c heap =
    let z = c.args.store.now.accounts.config in
    let pass = c.args.pass.now in
    let seat = pass.account in
    rows_are_pruned_as_seen z (lines z.passes) heap seat.table_id.slots seat.id seat.me pass.number (state_of pass) (pin_of pass)
    c.requires.may.0 (news_of seat.me.0 c.args.cell (settled_segment (cell_in seat.me.0 c.args.cell).segment)) c.requires.may.1
