use Rattle.std.proofs.Common.{◌≡◌}
use Rattle.std.specs.Prelude.{false}
use Rattle.std.specs.List.{list_any}
use Rattle.graph_model.specs.Graph.{Graph}
use Rattle.graph_model.specs.Rows.{is_below, rows}
use Rattle.leaf_rows.specs.Readers.{Shows}
use Rattle.leaf_rows.specs.Runs.{has_second, runs_left}
use Rattle.leaf_rows.proofs.rows.LeafRows.sees_any.Given as goal

-- none is seen before the next key
abbrev pub invariant-cells : goal.invariant-cells
invariant-cells l = record {
  behind : is_below l.next l.fn.from ≡ false;
  within : is_below l.until l.next ≡ false;
  none : (g : Graph) → Shows l.reader l.self g → list_any (has_second l.second) (rows g l.fn.from l.next) ≡ false;
}

abbrev pub decreases-cells : goal.decreases-cells
decreases-cells l = runs_left l.self l.next l.until
