-- Scans: a graph's rows in portions, behind a cursor.
use Rattle.std.specs.Prelude.{◌≡◌, ◌<◌, true, false, List, ◌++◌, length, take}
use Rattle.graph_model.specs.declared.limits.TheConstants.{SCAN_ROWS}
use Rattle.graph_model.specs.declared.row.Row.{Row}
use Rattle.graph_model.specs.declared.row.Cursor.{Cursor}
use Rattle.graph_model.specs.Graph.{Graph}
use Rattle.graph_model.specs.Rows.{rows}

-- the rows that are still to come
abbrev pub rows_left : Graph → Cursor → List Row
rows_left g cursor = rows g cursor.next cursor.until

-- the next portion of them
abbrev pub next_rows : Graph → Cursor → List Row
next_rows g cursor = take SCAN_ROWS (rows_left g cursor)

-- one step of a scan: it gives the next portion, and is done where that isn't a full one
pub record ScansBy (g : Graph) (old new : Cursor) (given : List Row) : Type 0 where
  pub gave : given ≡ next_rows g old
  pub until : new.until ≡ old.until
  pub ended : new.done ≡ true → length given < SCAN_ROWS
  -- a full portion, and the rest is still to come
  pub goes_on : new.done ≡ false → (length given ≡ SCAN_ROWS) × (given ++ rows_left g new ≡ rows_left g old)
