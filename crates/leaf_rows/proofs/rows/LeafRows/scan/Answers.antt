use Rattle.std.proofs.Common.{◌≡◌, ◌∙◌, sym, ap, []}
use Rattle.graph_model.specs.Rows.{rows}
use Rattle.graph_model.proofs.KeyLemmas.{between_parts}
use Rattle.edge_scan.proofs.StepLemmas.{steps_are_a_scan}
use Rattle.leaf_store.specs.Leaves.{cell_at}
use Rattle.leaf_rows.proofs.RunLemmas.{runs_fall, none_between}
use Rattle.leaf_rows.proofs.ScanLemmas.{run_end_stays, below_lesser, no_rows_beyond, scan_ends}
use Rattle.leaf_rows.proofs.rows.LeafRows.scan.Goals as goal
use Rattle.leaf_rows.proofs.rows.LeafRows.scan.Goals.{then-cells-test+else-is_below, else-cells-test}

pub has_portion-requires-clause-ahead : goal.has_portion-requires-clause-ahead
has_portion-requires-clause-ahead c =
    let cell = cell_at c.args.self.now c.cells.cursor.next in
    let run = c.run_for-run.ensures in
    rw (run_end_stays c.run_for-run.result.end cell.high c.cells.cursor run.end, run.end)
    (below_lesser c.cells.cursor.next cell.high c.cells.cursor.until (between_parts cell.low cell.high c.cells.cursor.next run.holds).1 (sym c.is_below.ensures ∙ c.cells-test.true))

pub cells-preserved : goal.cells-preserved
cells-preserved c =
    let cell = cell_at c.args.self.now c.cells.cursor.next in
    let run = c.run_for-run.ensures in
    let on = c.has_portion.ensures.onward c.if-has_portion.false in
    record {
      going = on.0;
      few = on.1;
      under_way = λ g shows. c.has_portion.ensures.under_way g c.args.cursor.now
          (run.rows g shows ∙ ap (rows g c.cells.cursor.next) (sym (run_end_stays c.run_for-run.result.end cell.high c.cells.cursor run.end)))
          (c.cells.invariant.under_way g shows);
    }

pub cells-smaller : goal.cells-smaller
cells-smaller c =
    let run = c.run_for-run.ensures in
    let on = c.has_portion.ensures.onward c.if-has_portion.false in
    rw (on.2, c.has_portion.ensures.until, run.end) (runs_fall c.args.self.now c.cells.cursor.next c.cells.cursor.until (sym c.is_below.ensures ∙ c.cells-test.true) run.holds)

pub returns-then-has_portion : goal.returns-then-has_portion
returns-then-has_portion c = λ g shows.
    let cell = cell_at c.args.self.now c.cells.cursor.next in
    let run = c.run_for-run.ensures in
    steps_are_a_scan g c.args.cursor.now c.has_portion.new.cursor c.has_portion.new.buffer
    (c.has_portion.ensures.under_way g c.args.cursor.now
    (run.rows g shows ∙ ap (rows g c.cells.cursor.next) (sym (run_end_stays c.run_for-run.result.end cell.high c.cells.cursor run.end)))
    (c.cells.invariant.under_way g shows))
    (c.has_portion.ensures.portion c.if-has_portion.true)

pub returns : goal.returns
returns c = λ g shows.
    let none : rows g c.cells.cursor.next c.cells.cursor.until ≡ [] =
    elim c.cells-test.branch [
      | then-cells-test+else-is_below w ↦
          no_rows_beyond _ (record { start = c.args.reader.now.start; own = c.args.reader.now.by }) c.self.inside.store g c.is_sound.ensures.sound (rw (← c.self.view_is) at shows)
          c.cells.cursor.next c.cells.cursor.until (rw w.end.ensures at (sym w.is_below-in-cells.ensures ∙ w.if-is_below.false))
      | else-cells-test w ↦ none_between g c.cells.cursor.next c.cells.cursor.until (sym c.is_below.ensures ∙ w.cells-test.false)
    ] in
    scan_ends g c.args.cursor.now c.cells.cursor c.cells.rows none c.cells.invariant.few (c.cells.invariant.under_way g shows)
