use Rattle.shared_readers.proofs.ScanLemmas.{IsReadTo}
use Rattle.shared_readers.proofs.parts.read_part.Given as goal

abbrev pub invariant-cells : goal.invariant-cells
invariant-cells g l = IsReadTo l.store l.fn.reader l.reader l.fn.from l.until l.next l.fn.list.items l.list.items
