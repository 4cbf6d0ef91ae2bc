use Rattle.std.proofs.Common.{◌≡◌, ◌+◌, ◌-◌, ◌^◌, ◌<◌}
use Rattle.std.specs.Prelude.{min}
use Rattle.graph_model.specs.AccountSteps.{ReadsBy}
use Rattle.thread_runner.proofs.driver.serve.Given as goal

abbrev pub invariant-turns : goal.invariant-turns
invariant-turns g l = record {
  served : g.E.Engine.served l.initial.engine < 2 ^ 64 → g.E.Engine.served l.engine ≡ min (g.E.Engine.served l.initial.engine + l._taken) (2 ^ 64 - 1);
  account : ReadsBy (g.E.Engine.account l.initial.engine) (g.E.Engine.account l.engine);
}
