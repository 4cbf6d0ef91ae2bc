use Rattle.line_runner.specs.Turns.{Calls, calls}
use Rattle.job_runner.proofs.JobLemmas.{replayed_here}
use Rattle.job_runner.proofs.job.Job.take_turn.Goals as goal

pub returns-then-replay_on-clause-ok : goal.returns-then-replay_on-clause-ok
returns-then-replay_on-clause-ok g c =
    let e : Calls g.row.E.Denot = calls g.E.Engine.account g.E.Engine.did_begin g.E.Engine.did_write g.E.Engine.did_read g.E.Engine.did_commit g.E.Engine.did_abort in
    replayed_here e c.args.engine.now c.args.self.now c.replay_on.new.self c.requires.ready (c.replay_on.ensures.replays c.if-replay_on.true)
