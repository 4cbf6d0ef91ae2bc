use Rattle.std.specs.Prelude.{IsSome}
use Rattle.bench_engine.proofs.turns.scan_all.Given as goal

abbrev pub invariant-scan : goal.invariant-scan
invariant-scan g l = IsSome (g.E.Engine.account l.engine).start
