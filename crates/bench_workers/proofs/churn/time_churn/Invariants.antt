use Rattle.std.proofs.Common.{◌≡◌}
use Rattle.cases_workers.specs.SharedStore.Passes.{IsIdle}
use Rattle.bench_workers.specs.Engines.{AreClosed, jobs_of}
use Rattle.bench_workers.proofs.churn.time_churn.Given as goal

abbrev pub invariant-rounds : goal.invariant-rounds
invariant-rounds g l = record {
  idle : IsIdle l.store l.watcher;
  number : l.watcher.seats.number ≡ l.fn.watcher.seats.number;
  closed : AreClosed g.E.Engine.account l.engines;
  jobs : jobs_of g.E.Engine.account l.engines ≡ jobs_of g.E.Engine.account l.fn.engines;
}
