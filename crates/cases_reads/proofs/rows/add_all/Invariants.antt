use Rattle.std.proofs.Common.{◌≡◌}
use Rattle.cases_shared.specs.SharedStore.Passes.{IsOpen}
use Rattle.cases_reads.proofs.rows.add_all.Given as goal

abbrev pub invariant-vertices : goal.invariant-vertices
invariant-vertices g l = IsOpen l.store l.pass × (l.pass.seats.number ≡ l.fn.pass.seats.number)
