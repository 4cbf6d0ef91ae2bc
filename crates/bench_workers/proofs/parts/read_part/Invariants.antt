use Rattle.std.proofs.Common.{◌≡◌, None}
use Rattle.bench_workers.proofs.parts.read_part.Given as goal

abbrev pub invariant-batches : goal.invariant-batches
invariant-batches g l =
    ((g.E.Engine.account l.engine).start ≡ None)
    × ((g.E.Engine.account l.engine).job ≡ (g.E.Engine.account l.fn.engine).job)
