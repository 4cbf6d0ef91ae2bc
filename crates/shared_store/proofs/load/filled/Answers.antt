use Rattle.std.proofs.Common.{◌∙◌, ap, subst, sym}
use Rattle.txn_manager.specs.Config.{too_large}
use Rattle.pass_writes.specs.LoadedCells.Numbered.{AreRowsOf}
use Rattle.shared_store.proofs.LoadLemmas.{all_loaded}
use Rattle.shared_store.proofs.load.filled.Goals as goal

pub returns-clause-passes : goal.returns-clause-passes
returns-clause-passes c =
    let store = c.in_ok-store.store in
    let config = c.in_ok-store.ensures.config in
    all_loaded store c.args.load c.in_ok-store.made.list.items c.note_load.new.list.items
    (c.note_load.ensures.seats ∙ c.in_ok-passes.ensures.seats) c.in_ok-store.ensures.passes store.same.0
    (ap too_large config ∙ c.requires.sized) c.args.rows.items
    (subst (λ z. AreRowsOf z c.args.load c.args.rows.items) (sym config) c.requires.rows) c.note_load.ensures.begun
    (c.note_load.ensures.cells c.in_ok-passes.ensures.cells)
