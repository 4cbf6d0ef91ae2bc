use Rattle.std.proofs.Common.{◌≡◌, ◌∙◌, refl, inl}
use Rattle.std.specs.Prelude.{false}
use Rattle.edge_scan.proofs.StepLemmas.{steps_are_a_scan}
use Rattle.pass_prunes.specs.PassSteps.Passes.{state_of}
use Rattle.pass_writes.specs.Found.{view_of}
use Rattle.pass_writes.proofs.ScanLemmas.{notes_on, same_on, scan_is_done, scan_starts, scanning_on, still_open, under_way_on}
use Rattle.pass_writes.proofs.scans.scan.Goals as goal

pub cells-init : goal.cells-init
cells-init g c = record {
  none = c.requires.none;
  opened = c.requires.opened;
  scanning = scan_starts c.args.store.now.accounts.config.kind c.args.begun c.args.pass.now c.args.cursor.now _
      c.requires.going c.clear.ensures;
}

pub returns-then-not-has_more-clause-answer : goal.returns-then-not-has_more-clause-answer
returns-then-not-has_more-clause-answer g c =
    let view = view_of c.args.store.now.accounts.config.kind (state_of c.args.pass.now) in
    let scanning = c.cells.invariant.scanning in
    let over : c.has_more.result ≡ false = c.if-not-has_more.true in
    steps_are_a_scan view c.args.cursor.now _ c.cells.rows
    (scan_is_done view c.args.cursor.now c.cells.cursor c.cells.rows
    (c.has_more.ensures.none over view c.requires.ends) scanning.few scanning.under_way) (inl refl)

pub returns-then-scan_cell-clause-answer : goal.returns-then-scan_cell-clause-answer
returns-then-scan_cell-clause-answer g c =
    let kind = c.args.store.now.accounts.config.kind in
    let call = c.scan_cell.ensures in
    steps_are_a_scan (view_of kind (state_of c.args.pass.now)) c.args.cursor.now c.scan_cell.new.cursor
    c.scan_cell.new.rows
    (under_way_on kind c.args.begun c.args.pass.now c.cells.pass c.scan_cell.new.pass c.args.cursor.now c.cells.cursor
    c.scan_cell.new.cursor c.cells.rows c.scan_cell.new.rows c.cells.invariant.scanning call.state call.back.pin call.back.same
    c.scan_cell.result call.portion)
    (call.portion.portion c.if-scan_cell.true)

pub returns-then-scan_cell-clause-state : goal.returns-then-scan_cell-clause-state
returns-then-scan_cell-clause-state g c =
    let call = c.scan_cell.ensures in
    notes_on c.args.store.now.accounts.config.kind c.args.begun c.args.pass.now c.cells.pass c.scan_cell.new.pass
    c.args.cursor.now c.cells.cursor c.scan_cell.new.cursor c.cells.rows c.scan_cell.new.rows
    c.cells.invariant.scanning call.state call.back.pin call.back.same c.scan_cell.result call.portion

pub returns-then-scan_cell-clause-back : goal.returns-then-scan_cell-clause-back
returns-then-scan_cell-clause-back g c =
    let call = c.scan_cell.ensures in
    let same = same_on c.args.store.now.accounts.config.kind c.args.begun c.args.pass.now c.cells.pass c.scan_cell.new.pass
    c.args.cursor.now c.cells.cursor c.scan_cell.new.cursor c.cells.rows c.scan_cell.new.rows
    c.cells.invariant.scanning call.state call.back.pin call.back.same c.scan_cell.result call.portion in
    record { none = call.back.none; pin = call.back.pin ∙ c.cells.invariant.scanning.pin; same = same }

pub cells-preserved : goal.cells-preserved
cells-preserved g c =
    let call = c.scan_cell.ensures in record {
      none = call.back.none;
      opened = still_open c.args.begun c.cells.pass c.scan_cell.new.pass call.state call.back.pin call.back.same
          c.cells.invariant.opened;
      scanning = scanning_on c.args.store.now.accounts.config.kind c.args.begun c.args.pass.now c.cells.pass
          c.scan_cell.new.pass c.args.cursor.now c.cells.cursor c.scan_cell.new.cursor c.cells.rows
          c.scan_cell.new.rows c.cells.invariant.scanning call.state call.back.pin call.back.same c.scan_cell.result
          call.portion c.if-scan_cell.false;
    }
