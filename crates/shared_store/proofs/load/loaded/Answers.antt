use Rattle.std.proofs.Common.{◌∙◌, subst, sym}
use Rattle.graph_model.specs.declared.write.Write.{Write}
use Rattle.std.proofs.Common.{List}
use Rattle.load_order.specs.Placings.{AreSortedRows}
use Rattle.pass_writes.specs.LoadedCells.Numbered.{AreRowsOf}
use Rattle.shared_store.proofs.LoadLemmas.{rows_of_load, some_of}
use Rattle.shared_store.proofs.load.loaded.Goals as goal

pub filled-requires-clause-rows : goal.filled-requires-clause-rows
filled-requires-clause-rows c =
    let z = c.args.config in
    let load = c.args.load in
    let rows = c.in_ok-rows.rows.items in
    rows_of_load z load rows (some_of load (sym c.is_empty.ensures ∙ c.if-is_empty.false)) c.requires.adds
    c.requires.within c.requires.allowed
    (subst (λ (ws : List Write). AreSortedRows z.kind ws rows) c.as_slice.ensures c.in_ok-rows.ensures)
