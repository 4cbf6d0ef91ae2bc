use Rattle.std.specs.Prelude.{true}
use Rattle.graph_model.specs.declared.write.Write.TheVariants.{AddVertex}
use Rattle.cases_engine.proofs.OpenLemmas.{keeps_set, wrote}
use Rattle.cases_engine.proofs.passes.begin_and_add.Goals as goal

pub returns : goal.returns
returns g c = keeps_set _ _ _ c.args.pass true c.in_ok-begun.ensures.sets (wrote _ _ (AddVertex 5) _ (g.met.E.StepEngine.writes_here _ _ _ _ c.add_vertex.ensures))
