use Rattle.std.proofs.Common.{◌≡◌, None}
use Rattle.bench_engine.proofs.churn.churn.Given as goal

abbrev pub invariant-moments : goal.invariant-moments
invariant-moments g l = (g.E.Engine.account l.engine).start ≡ None
