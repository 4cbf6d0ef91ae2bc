use Rattle.std.proofs.Common.{sym, subst, List}
use Rattle.graph_model.specs.declared.write.Write.{Write}
use Rattle.graph_model.specs.Graph.{apply_all, empty_graph}
use Rattle.graph_model.specs.Inserted.{inserted}
use Rattle.graph_model.specs.Loading.{IsLoadRefusal}
use Rattle.leaf_rows.specs.Loaded.{AreLoaded, IsLegalLoad}
use Rattle.teseo_core.specs.Keeping.{core_of}
use Rattle.teseo_core.specs.Loads.{IsTooMuch}
use Rattle.teseo_core.proofs.LoadLemmas.{err_that, too_much}
use Rattle.teseo_core.proofs.store.Core.load_by_threads.Goals as goal

pub returns-in_err-rows-clause-refused : goal.returns-in_err-rows-clause-refused
returns-in_err-rows-clause-refused g c = rw (← c.self.view_is) (
    let f = c.self.inside in
    let core = core_of f.kind f.leaves f.manager f.passes.items f.selected f.served in
    err_that c.from_residual.result c.in_err-rows.field-0.0 (IsLoadRefusal core c.args.load) c.from_residual.ensures.1
    (too_much core c.args.load c.in_err-rows.field-0.0
    (subst (λ (ws : List Write). IsTooMuch f.leaves (inserted f.kind ws) c.in_err-rows.field-0.0) c.as_slice.ensures c.in_err-rows.ensures.refused)))

pub load_filled-requires-clause-rows : goal.load_filled-requires-clause-rows
load_filled-requires-clause-rows g c = rw (← c.self.view_is) (
    let f = c.self.inside in
    subst (λ (ws : List Write). AreLoaded f.leaves (apply_all f.kind empty_graph ws) (inserted f.kind ws) c.in_ok-rows.rows) c.as_slice.ensures c.in_ok-rows.ensures.ok)

pub rows_by_threads-requires-clause-legal : goal.rows_by_threads-requires-clause-legal
rows_by_threads-requires-clause-legal g c κs within =
    let f = c.self.inside in
    let load = rw (← c.self.view_is) at c.requires.load in
    subst (IsLegalLoad f.leaves f.kind) (sym c.as_slice.ensures) (record {
      some = c.self.invariant.some;
      few = c.self.invariant.few;
      adds = load.adds;
      within = load.within;
      allowed = load.allowed;
    })
