use Rattle.std.proofs.Common.{◌∙◌, sym, refl}
use Rattle.edge_scan.proofs.StepLemmas.{steps_are_a_scan}
use Rattle.reader_parts.specs.SharedStore.Passes.{view_in}
use Rattle.worker_calls.proofs.ScanLemmas.{kept_twice, scan_ends, scan_starts, scanning_on, under_way_on}
use Rattle.worker_calls.proofs.scans.read_portion.Goals as goal

pub cells-init : goal.cells-init
cells-init g c =
    scan_starts c.args.store.now c.args.pass.now c.args.cursor.now c.args.rows.now
    (record { opened = c.requires.opened; account = refl; start = refl; number = refl }) c.requires.going
    c.requires.empty

pub returns-then-not-is_below-clause-answer : goal.returns-then-not-is_below-clause-answer
returns-then-not-is_below-clause-answer g c = λ yes.
    scan_ends c.args.store.now c.args.pass.now c.cells.pass c.args.cursor.now c.cells.cursor c.cells.rows
    c.cells.invariant (sym c.is_below.ensures ∙ c.if-not-is_below.true)

pub returns-then-is_whole-clause-kept : goal.returns-then-is_whole-clause-kept
returns-then-is_whole-clause-kept g c =
    kept_twice c.args.store.now c.args.pass.now c.cells.pass c.read_on.new.pass c.cells.invariant.kept
    c.read_on.ensures.kept

pub returns-then-is_whole-clause-answer : goal.returns-then-is_whole-clause-answer
returns-then-is_whole-clause-answer g c = λ yes.
    steps_are_a_scan (view_in c.args.store.now c.args.pass.now) c.args.cursor.now c.read_on.new.cursor
    c.read_on.new.rows
    (under_way_on c.args.store.now c.args.pass.now c.cells.pass c.read_on.new.pass c.args.cursor.now c.cells.cursor
    c.read_on.new.cursor c.cells.rows c.read_on.new.rows c.cells.invariant
    (c.read_on.ensures.on c.if-not-read_on.false))
    (c.is_whole.ensures.whole c.if-is_whole.true)

pub cells-preserved : goal.cells-preserved
cells-preserved g c =
    scanning_on c.args.store.now c.args.pass.now c.cells.pass c.read_on.new.pass c.args.cursor.now c.cells.cursor
    c.read_on.new.cursor c.cells.rows c.read_on.new.rows c.cells.invariant
    (c.read_on.ensures.on c.if-not-read_on.false) c.read_on.ensures.kept
    (c.is_whole.ensures.onward c.if-is_whole.false)
