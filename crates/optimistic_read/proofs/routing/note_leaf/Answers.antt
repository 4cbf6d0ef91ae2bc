use Rattle.pass_steps.specs.RuleModel.Places.{lines}
use Rattle.pass_steps.specs.Passes.{pin_of}
use Rattle.optimistic_read.proofs.RouteLemmas.{notes_leaf}
use Rattle.optimistic_read.proofs.routing.note_leaf.Goals as goal

pub change-requires-clause-may : goal.change-requires-clause-may
change-requires-clause-may c heap =
    let z = c.args.store.now.accounts.config in
    let pass = c.args.pass.now in
    let seat = pass.account in
    let may = c.requires.may in
    notes_leaf z (lines z.passes) heap seat.table_id.slots seat.id seat.me pass.number c.args.leaf (pin_of pass)
    may.index may.pin may.has may.alone may.live may.pinned
