use Rattle.std.proofs.Common.{◌≡◌, None}
use Rattle.bench_workers.proofs.parts.set_often.Given as goal

abbrev pub invariant-edges : goal.invariant-edges
invariant-edges g l =
    ((g.E.Engine.account l.engine).start ≡ None)
    × ((g.E.Engine.account l.engine).job ≡ (g.E.Engine.account l.fn.engine).job)
