use Rattle.std.proofs.Common.{◌≡◌, refl, inl}
use Rattle.std.specs.Prelude.{false}
use Rattle.edge_scan.proofs.StepLemmas.{steps_are_a_scan}
use Rattle.shared_readers.specs.Readers.{seen_in}
use Rattle.shared_readers.proofs.ReadLemmas.{keeps_itself}
use Rattle.shared_readers.proofs.ScanLemmas.{scan_is_done, scan_starts, under_way_on}
use Rattle.shared_readers.proofs.scans.scan_reader.Goals as goal

pub cells-init : goal.cells-init
cells-init g c =
    scan_starts c.args.store.now c.args.reader.now c.args.cursor.now _
    (keeps_itself c.args.store.now c.args.reader.now c.requires.reader) c.requires.going c.clear.ensures

pub returns-then-not-has_more-clause-answer : goal.returns-then-not-has_more-clause-answer
returns-then-not-has_more-clause-answer g c =
    let seen = seen_in c.args.store.now c.args.reader.now in
    let scanning = c.cells.invariant in
    let over : c.has_more.result ≡ false = c.if-not-has_more.true in
    steps_are_a_scan seen c.args.cursor.now _ c.cells.rows
    (scan_is_done seen c.args.cursor.now c.cells.cursor c.cells.rows
    (c.has_more.ensures.none over seen c.requires.reader.ends) scanning.few scanning.under_way) (inl refl)

pub returns-then-take_run-clause-answer : goal.returns-then-take_run-clause-answer
returns-then-take_run-clause-answer g c =
    steps_are_a_scan (seen_in c.args.store.now c.args.reader.now) c.args.cursor.now c.take_run.new.cursor
    c.take_run.new.given
    (under_way_on c.args.store.now c.args.reader.now c.cells.reader c.read_run-end.new.reader c.args.cursor.now
    c.cells.cursor c.take_run.new.cursor c.cells.rows c.take_run.new.given c.read_run-end.new.run
    c.read_run-end.result c.cells.invariant c.read_run-end.ensures.run c.take_run.ensures.under_way)
    (c.take_run.ensures.whole c.if-take_run.true)
