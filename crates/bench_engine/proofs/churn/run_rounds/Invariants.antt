use Rattle.std.proofs.Common.{◌≡◌, None}
use Rattle.bench_engine.proofs.churn.run_rounds.Given as goal

abbrev pub invariant-rounds : goal.invariant-rounds
invariant-rounds g l = (g.E.Engine.account l.engine).start ≡ None
