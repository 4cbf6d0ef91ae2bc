use Rattle.std.proofs.Common.{◌≡◌, ◌+◌, ◌*◌, ◌≤◌, length}
use Rattle.std.specs.Prelude.{count_by, false}
use Rattle.graph_model.specs.Graph.{Graph}
use Rattle.graph_model.specs.Rows.{is_below, first_key, end_key, rows}
use Rattle.leaf_rows.specs.Counted.{is_vertex_row}
use Rattle.leaf_rows.specs.Readers.{Shows}
use Rattle.leaf_rows.specs.Runs.{runs_left}
use Rattle.leaf_rows.proofs.rows.LeafRows.count.Given as goal

-- the rows before the next key are counted, and there is room for those of the cells to come
abbrev pub invariant-cells : goal.invariant-cells
invariant-cells l = record {
  behind : is_below l.next first_key ≡ false;
  within : is_below end_key l.next ≡ false;
  room : l.counts.vertices + l.counts.arcs + 32 * runs_left l.self l.next end_key ≤ 1099511627808;
  vertices : (g : Graph) → Shows l.reader l.self g → l.counts.vertices ≡ count_by is_vertex_row (rows g first_key l.next);
  all : (g : Graph) → Shows l.reader l.self g → l.counts.vertices + l.counts.arcs ≡ length (rows g first_key l.next);
}

abbrev pub decreases-cells : goal.decreases-cells
decreases-cells l = runs_left l.self l.next end_key
