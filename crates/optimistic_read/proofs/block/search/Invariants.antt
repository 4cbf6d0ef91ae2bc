use Rattle.std.proofs.Common.{◌≤◌, ◌+◌}
use Rattle.optimistic_read.specs.Reads.{IsReadingOn, StillReads}
use Rattle.optimistic_read.proofs.LoadLemmas.{Halved}
use Rattle.optimistic_read.proofs.block.search.Given as goal

abbrev pub invariant-halves : goal.invariant-halves
invariant-halves l =
    StillReads l.fn.seat l.seat × (l.place + l.rest ≤ l.fn.head.count)
    × IsReadingOn l.read.block.cell l.read.first l.seat.me.0
    (Halved l.read.block.cell l.read.first l.fn.head l.key l.place l.rest)

abbrev pub decreases-halves : goal.decreases-halves
decreases-halves l = l.rest
