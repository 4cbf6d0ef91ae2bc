use Rattle.std.proofs.Common.{◌≡◌}
use Rattle.bench_latches.proofs.pins.pin_often.Given as goal

abbrev pub invariant-calls : goal.invariant-calls
invariant-calls l = l.pass.table_id ≡ l.fn.pass.table_id
