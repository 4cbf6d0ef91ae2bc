use Rattle.std.proofs.Common.{◌≡◌}
use Rattle.latch_table.specs.Latched.{IsIdle, number_of}
use Rattle.cases_latches.proofs.counting.count.Given as goal

abbrev pub invariant-rounds : goal.invariant-rounds
invariant-rounds g l = IsIdle 2 tt l.counters.table.now.table_id l.pass
    × (number_of l.pass.me.0 ≡ number_of l.fn.pass.me.0)

abbrev pub invariant-cells : goal.invariant-cells
invariant-cells g l = IsIdle 2 tt l.counters.table.now.table_id l.pass
    × (number_of l.pass.me.0 ≡ number_of l.fn.pass.me.0)
