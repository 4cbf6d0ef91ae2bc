use Rattle.optimistic_read.specs.Runs.{IsRun}
use Rattle.shared_readers.specs.Readers.{KeepsReading, seen_in}
use Rattle.shared_readers.proofs.runs.try_on.Given as goal

abbrev pub invariant-cells : goal.invariant-cells
invariant-cells l =
    KeepsReading l.store l.fn.reader l.reader
    × IsRun l.tried (seen_in l.store l.fn.reader) l.from l.until l.fn.run l.run
