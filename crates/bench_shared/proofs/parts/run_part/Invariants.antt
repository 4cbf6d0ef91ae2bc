use Rattle.std.proofs.Common.{◌≡◌}
use Rattle.shared_store.specs.Passes.{IsIdle}
use Rattle.bench_shared.proofs.parts.run_part.Given as goal

abbrev pub invariant-edits : goal.invariant-edits
invariant-edits g l = IsIdle l.store l.pass × (l.pass.seats.number ≡ l.fn.pass.seats.number)
