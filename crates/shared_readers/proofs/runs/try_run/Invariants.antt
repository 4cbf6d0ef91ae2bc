use Rattle.shared_readers.specs.Readers.{KeepsReading}
use Rattle.shared_readers.proofs.runs.try_run.Given as goal

abbrev pub invariant-tries : goal.invariant-tries
invariant-tries l = KeepsReading l.store l.fn.reader l.reader
