use Rattle.reader_parts.specs.SharedStore.Passes.{KeepsOpen}
use Rattle.worker_calls.proofs.scans.scan_step.Given as goal

abbrev pub invariant-tries : goal.invariant-tries
invariant-tries g l = KeepsOpen l.store l.fn.pass l.pass
