use Rattle.latch_table.specs.Latched.{IsIdle}
use Rattle.bench_latches.proofs.spots.touch_many.Given as goal

abbrev pub invariant-calls : goal.invariant-calls
invariant-calls g l = IsIdle 64 tt l.cells.table.now.table_id l.pass
