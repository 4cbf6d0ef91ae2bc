use Rattle.std.proofs.Common.{◌≡◌, None}
use Rattle.cases_workers.proofs.rows.ScanOftenEngineCase.run.Given as goal

abbrev pub invariant-rounds : goal.invariant-rounds
invariant-rounds g l =
    ((g.E.Engine.account l.engine).start ≡ None)
    × ((g.E.Engine.account l.engine).job ≡ (g.E.Engine.account l.fn.engine).job)
