-- Runs of rows that a reader has read.
use Rattle.std.specs.Prelude.{◌≡◌, true, false, List}
use Rattle.graph_model.specs.declared.row.Key.{Key}
use Rattle.graph_model.specs.declared.row.Row.{Row}
use Rattle.graph_model.specs.Graph.{Graph}
use Rattle.graph_model.specs.Rows.{is_below, rows}

-- These are the rows of the graph from one key on and before an end, which is behind the first key, and not behind the
-- last one.
pub record IsRunTo (end : Key) (g : Graph) (from until : Key) (run : List Row) : Type 0 where
  pub ahead : is_below from end ≡ true
  pub inside : is_below until end ≡ false
  pub run_is : run ≡ rows g from end
