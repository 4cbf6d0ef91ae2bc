use Rattle.std.proofs.Common.{◌≡◌, ◌<◌, length}
use Rattle.std.specs.Prelude.{false}
use Rattle.graph_model.specs.Graph.{Graph}
use Rattle.edge_scan.specs.Steps.{IsUnderWay}
use Rattle.leaf_rows.specs.Readers.{Shows}
use Rattle.leaf_rows.specs.Runs.{runs_left}
use Rattle.leaf_rows.proofs.rows.LeafRows.scan.Given as goal

-- the scan is under way, and the buffer has room
abbrev pub invariant-cells : goal.invariant-cells
invariant-cells l = record {
  going : l.cursor.done ≡ false;
  few : length l.rows < 64;
  under_way : (g : Graph) → Shows l.reader l.self g → IsUnderWay g l.fn.cursor l.cursor l.rows;
}

abbrev pub decreases-cells : goal.decreases-cells
decreases-cells l = runs_left l.self l.cursor.next l.cursor.until
