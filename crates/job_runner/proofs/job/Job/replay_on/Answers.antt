use Rattle.std.proofs.Common.{refl}
use Rattle.job_runner.proofs.job.Job.replay_on.Goals as goal

pub returns-clause-replays : goal.returns-clause-replays
returns-clause-replays c = λ replays. rw (← c.self.view_is) (record {
  reading = c.in-Some.reading;
  further = c.replay_on.new.self;
  reads = c.in-Some.is;
  is_open = c.in-Open.is;
  goes_on = c.replay_on.ensures.further replays;
  job_is = refl;
})
