use Rattle.std.proofs.Common.{◌≡◌, None}
use Rattle.bench_workers.proofs.parts.scan_often.Given as goal

abbrev pub invariant-times : goal.invariant-times
invariant-times g l =
    ((g.E.Engine.account l.engine).start ≡ None)
    × ((g.E.Engine.account l.engine).job ≡ (g.E.Engine.account l.fn.engine).job)
