use Rattle.latch_table.specs.Latched.{IsIdle}
use Rattle.bench_latches.proofs.hot.time_touches.Given as goal

abbrev pub invariant-rounds : goal.invariant-rounds
invariant-rounds g l = IsIdle 64 tt l.cells.table.now.table_id l.pass
