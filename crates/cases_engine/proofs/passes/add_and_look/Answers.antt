use Rattle.std.specs.Prelude.{true}
use Rattle.cases_engine.proofs.OpenLemmas.{open_in, within}
use Rattle.cases_engine.proofs.passes.add_and_look.Goals as goal

pub select-requires : goal.select-requires
select-requires g c = within (g.E.StepEngine.core c.args.engine.now) c.args.pass true c.requires

pub add_vertex-requires-clause-current : goal.add_vertex-requires-clause-current
add_vertex-requires-clause-current g c = open_in _ (g.E.StepEngine.core c.args.engine.now) _ c.args.pass (g.met.E.StepEngine.accounts c.select.new.self) c.select.ensures c.requires
