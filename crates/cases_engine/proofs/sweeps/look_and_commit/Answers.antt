use Rattle.std.specs.Prelude.{true}
use Rattle.cases_engine.proofs.OpenLemmas.{open_in, within}
use Rattle.cases_engine.proofs.sweeps.look_and_commit.Goals as goal

pub select-requires : goal.select-requires
select-requires g c = within (g.E.StepEngine.core c.args.engine.now) c.args.pass true c.requires

pub has_vertex-seen-requires-clause-current : goal.has_vertex-seen-requires-clause-current
has_vertex-seen-requires-clause-current g c = open_in _ (g.E.StepEngine.core c.args.engine.now) _ c.args.pass (g.met.E.StepEngine.accounts c.select.new.self) c.select.ensures c.requires
