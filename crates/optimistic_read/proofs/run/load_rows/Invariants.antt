use Rattle.std.proofs.Common.{◌≡◌, ◌≤◌, ◌+◌, ◌-◌, length}
use Rattle.optimistic_read.specs.Reads.{IsReadingOn, StillReads}
use Rattle.optimistic_read.proofs.RunLemmas.{IsRunning}
use Rattle.optimistic_read.proofs.run.load_rows.Given as goal

abbrev pub invariant-rows : goal.invariant-rows
invariant-rows l =
    StillReads l.fn.seat l.seat × (l.place ≤ l.head.count) × (length l.rows + l.room ≡ 64)
    × IsReadingOn l.read.block.cell l.read.first l.seat.me.0
    (IsRunning l.head l.fn.from l.until l.fn.rows l.place l.room l.rows)

abbrev pub decreases-rows : goal.decreases-rows
decreases-rows l = l.head.count - l.place
