use Rattle.std.proofs.Common.{◌≡◌}
use Rattle.cases_workers.specs.SharedStore.Passes.{IsIdle}
use Rattle.bench_workers.proofs.held.records_now.Given as goal

abbrev pub invariant-cells : goal.invariant-cells
invariant-cells g l = IsIdle l.store l.pass × (l.pass.seats.number ≡ l.fn.pass.seats.number)
