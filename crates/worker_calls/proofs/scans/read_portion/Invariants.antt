use Rattle.worker_calls.proofs.ScanLemmas.{IsScanning}
use Rattle.worker_calls.proofs.scans.read_portion.Given as goal

abbrev pub invariant-cells : goal.invariant-cells
invariant-cells g l = IsScanning l.store l.fn.pass l.pass l.fn.cursor l.cursor l.rows
