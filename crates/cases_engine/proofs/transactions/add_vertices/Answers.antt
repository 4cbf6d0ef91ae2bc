use Rattle.graph_model.specs.declared.write.Write.TheVariants.{AddVertex}
use Rattle.cases_engine.proofs.OpenLemmas.{keeps_both, open_still, wrote}
use Rattle.cases_engine.proofs.transactions.add_vertices.Goals as goal

pub add_vertex-requires-clause-current : goal.add_vertex-requires-clause-current
add_vertex-requires-clause-current g c =
    open_still _ _ _ _ (g.met.E.StepEngine.accounts c.args.engine.now) (g.met.E.StepEngine.accounts c.vertices.engine) c.vertices.invariant c.requires.current

pub vertices-preserved : goal.vertices-preserved
vertices-preserved g c =
    keeps_both _ _ _ c.vertices.invariant (wrote _ _ (AddVertex c.vertices.v) _ (g.met.E.StepEngine.writes_here _ _ _ _ c.add_vertex.ensures))
