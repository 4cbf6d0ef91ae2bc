use Rattle.line_runner.specs.Turns.{Calls, calls}
use Rattle.std.proofs.Common.{sym, subst}
use Rattle.graph_model.specs.Account.{Account}
use Rattle.job_runner.specs.Progress.{IsReadyBy, IsRolledBack}
use Rattle.job_runner.proofs.JobLemmas.{took_alone}
use Rattle.job_runner.proofs.job.Job.turn_alone.Goals as goal

pub turn-requires-clause-ready : goal.turn-requires-clause-ready
turn-requires-clause-ready g c κs within = subst (λ (a : Account). IsReadyBy a c.args.self.now) (sym (g.met.E.StepEngine.accounts c.args.engine.now)) c.requires.ready.now

pub returns-clause-took : goal.returns-clause-took
returns-clause-took g c =
    let e : Calls g.row.E.Denot = calls g.E.Engine.account g.E.Engine.did_begin g.E.Engine.did_write g.E.Engine.did_read g.E.Engine.did_commit g.E.Engine.did_abort in
    took_alone e g.E.StepEngine.core (record {
      accounts = g.met.E.StepEngine.accounts;
      begins_here = g.met.E.StepEngine.begins_here;
      writes_here = g.met.E.StepEngine.writes_here;
      reads_here = g.met.E.StepEngine.reads_here;
      commits_here = g.met.E.StepEngine.commits_here;
      aborts_here = g.met.E.StepEngine.aborts_here;
    }) c.args.engine.now c.args.self.now c.requires.ready c.turn.result c.turn.new.self c.turn.new.engine c.turn.ensures.took

pub returns-clause-rolled_back : goal.returns-clause-rolled_back
returns-clause-rolled_back g c = λ wanted. subst (λ (a : Account). IsRolledBack c.args.self.now c.turn.new.self a) (g.met.E.StepEngine.accounts c.turn.new.engine) (c.turn.ensures.rolled_back wanted)
