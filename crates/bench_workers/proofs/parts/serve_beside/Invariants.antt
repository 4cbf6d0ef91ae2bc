use Rattle.std.proofs.Common.{◌≡◌, None}
use Rattle.bench_workers.proofs.parts.serve_beside.Given as goal

abbrev pub invariant-turns : goal.invariant-turns
invariant-turns g l =
    ((g.E.Engine.account l.engine).start ≡ None)
    × ((g.E.Engine.account l.engine).job ≡ (g.E.Engine.account l.fn.engine).job)
