use Rattle.std.proofs.Common.{refl}
use Rattle.cases_engine.proofs.OpenLemmas.{closed_in}
use Rattle.cases_engine.proofs.sweeps.sweep_beside_a_reader.Goals as goal

pub commit_vertices-requires-clause-closed : goal.commit_vertices-requires-clause-closed
commit_vertices-requires-clause-closed g c =
    closed_in _ (g.E.StepEngine.core c.begin_in.new.engine) _ 0 (g.met.E.StepEngine.accounts c.select.new.self) c.select.ensures (rw (c.in_ok-begin_in.ensures.sets.open_in, c.requires) refl)
