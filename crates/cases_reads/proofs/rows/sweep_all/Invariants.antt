use Rattle.std.proofs.Common.{◌≡◌}
use Rattle.cases_shared.specs.SharedStore.Passes.{IsIdle}
use Rattle.cases_reads.proofs.rows.sweep_all.Given as goal

abbrev pub invariant-leaves : goal.invariant-leaves
invariant-leaves g l = IsIdle l.store l.pass × (l.pass.seats.number ≡ l.fn.pass.seats.number)
