use Rattle.latch_table.specs.Latched.{IsIdle}
use Rattle.bench_latches.proofs.four.touch_first.Given as goal

abbrev pub invariant-calls : goal.invariant-calls
invariant-calls g l = IsIdle 64 tt l.cells.table.now.table_id l.pass
