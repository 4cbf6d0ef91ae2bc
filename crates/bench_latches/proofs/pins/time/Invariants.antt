use Rattle.std.proofs.Common.{◌≡◌}
use Rattle.bench_latches.proofs.pins.time.Given as goal

abbrev pub invariant-rounds : goal.invariant-rounds
invariant-rounds g l = l.pass.table_id ≡ l.pins.table.now.table_id
