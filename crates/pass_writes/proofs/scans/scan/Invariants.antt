use Rattle.pass_writes.specs.Hand.{HasNothing}
use Rattle.pass_writes.specs.Making.{IsOpenIn}
use Rattle.pass_writes.proofs.ScanLemmas.{IsScanning}
use Rattle.pass_writes.proofs.scans.scan.Given as goal

abbrev pub invariant-cells : goal.invariant-cells
invariant-cells g l = record {
  none : HasNothing l.store l.pass l.cells.taken.list.items;
  opened : IsOpenIn l.begun l.pass;
  scanning : IsScanning l.store.accounts.config.kind l.begun l.fn.pass l.pass l.fn.cursor l.cursor l.rows;
}
