use Rattle.shared_readers.proofs.ScanLemmas.{IsScanning}
use Rattle.shared_readers.proofs.scans.scan_reader.Given as goal

abbrev pub invariant-cells : goal.invariant-cells
invariant-cells g l = IsScanning l.store l.fn.reader l.reader l.fn.cursor l.cursor l.rows
