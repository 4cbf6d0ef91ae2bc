use Rattle.std.proofs.Common.{◌∙◌}
use Rattle.shared_store.proofs.EndLemmas.{aborted_state, aborts_account}
use Rattle.shared_store.proofs.transactions.abort.Goals as goal

pub returns-clause-aborts : goal.returns-clause-aborts
returns-clause-aborts g c =
    let store = c.args.store.now in
    let old = c.args.pass.now in
    aborts_account store old c.unpin.new.pass c.requires.opened
    (aborted_state store old.seats c.stop.new.pass c.undo_all.new.pass c.end.new.pass c.unpin.new.pass
    c.stop.ensures c.undo_all.ensures.undone c.end.ensures c.unpin.ensures)
    (c.unpin.ensures.number ∙ c.end.ensures.number ∙ c.undo_all.ensures.back.same.number ∙ c.stop.ensures.number)
