use Rattle.std.proofs.Common.{◌≡◌, ◌+◌, ◌-◌, ◌*◌}
use Rattle.latch_table.specs.Opening.{HasPasses}
use Rattle.bench_latches.proofs.four.rounds.Given as goal

abbrev pub invariant-rounds : goal.invariant-rounds
invariant-rounds g l = (l.all.table_id ≡ l.fn.all.table_id)
    × HasPasses tt (l.from + 4 * (8 - l.round)) l.all.me.0
