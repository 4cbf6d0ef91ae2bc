use Rattle.std.proofs.Common.{sym, subst}
use Rattle.graph_model.specs.Graph.{apply_all, empty_graph}
use Rattle.graph_model.specs.Inserted.{inserted}
use Rattle.graph_model.specs.OwnerCalls.{Core}
use Rattle.leaf_rows.specs.Loaded.{AreLoaded}
use Rattle.teseo_core.proofs.store.Core.load_filled.Goals as goal

pub take_load-requires-clause-rows : goal.take_load-requires-clause-rows
take_load-requires-clause-rows c =
    subst (λ (core : Core). AreLoaded core.leaves (apply_all core.kind empty_graph c.args.load) (inserted core.kind c.args.load) c.args.rows) (sym c.in-Ok.ensures.did.here.2) c.requires.rows
