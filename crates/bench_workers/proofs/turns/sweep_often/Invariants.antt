use Rattle.std.proofs.Common.{◌≡◌}
use Rattle.cases_workers.specs.SharedStore.Passes.{IsIdle}
use Rattle.bench_workers.proofs.turns.sweep_often.Given as goal

abbrev pub invariant-times : goal.invariant-times
invariant-times g l = IsIdle l.store l.pass × (l.pass.seats.number ≡ l.fn.pass.seats.number)
