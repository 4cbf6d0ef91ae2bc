use Rattle.std.proofs.Common.{◌≡◌, ◌+◌, ◌*◌, ◌≤◌, length}
use Rattle.std.specs.Prelude.{count_by, false}
use Rattle.graph_model.specs.Graph.{Graph}
use Rattle.graph_model.specs.Rows.{end_key, first_key, is_below, rows}
use Rattle.leaf_rows.specs.Counted.{is_vertex_row}
use Rattle.leaf_rows.specs.Runs.{cells_behind}
use Rattle.shared_store.specs.Totals.{HoldsGraph}
use Rattle.shared_store.proofs.totals.count_rows.Given as goal

-- the rows before the next key are counted, and there is room for those of the cells to come
abbrev pub invariant-cells : goal.invariant-cells
invariant-cells l = record {
  behind : is_below l.next first_key ≡ false;
  within : is_below end_key l.next ≡ false;
  kept : l.cells ≡ l.fn.cells;
  room : l.counts.rows + 32 * cells_behind l.next l.fn.cells ≤ 33554432;
  few : l.counts.vertices ≤ l.counts.rows;
  vertices : (g : Graph) → HoldsGraph l.fn.cells l.index g → l.counts.vertices ≡ count_by is_vertex_row (rows g first_key l.next);
  all : (g : Graph) → HoldsGraph l.fn.cells l.index g → l.counts.rows ≡ length (rows g first_key l.next);
}

abbrev pub decreases-cells : goal.decreases-cells
decreases-cells l = cells_behind l.next l.fn.cells
