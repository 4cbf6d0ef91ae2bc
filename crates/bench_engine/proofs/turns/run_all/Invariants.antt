use Rattle.std.proofs.Common.{◌≡◌, None}
use Rattle.bench_engine.proofs.turns.run_all.Given as goal

abbrev pub invariant-edits : goal.invariant-edits
invariant-edits g l = (g.E.Engine.account l.engine).start ≡ None
