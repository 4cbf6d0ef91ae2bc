-- Scans of a view, cell after cell.
use Rattle.std.specs.Prelude.{◌≡◌, ◌⊎◌, ◌<◌, Bool, true, false, List, length, None}
use Rattle.graph_model.specs.declared.limits.TheConstants.{SCAN_ROWS}
use Rattle.graph_model.specs.declared.row.Cursor.{Cursor}
use Rattle.graph_model.specs.declared.row.Key.{Key}
use Rattle.graph_model.specs.declared.row.Row.{Row}
use Rattle.graph_model.specs.Graph.{Graph}
use Rattle.graph_model.specs.Rows.{end_key, is_below, value_at}
use Rattle.edge_scan.specs.Steps.{IsUnderWay}

-- no key from the last one on has a value
abbrev pub EndsWithKeys : Graph → Type 0
EndsWithKeys g = (q : Key) → is_below q end_key ≡ false → value_at g q ≡ None

-- After one cell the scan is as far under way as the rows that were given tell. Its portion is whole, or there is room
-- for more.
pub record IsPortion (g : Graph) (old new : Cursor) (before after : List Row) (whole : Bool) : Type 0 where
  pub under_way : (first : Cursor) → IsUnderWay g first old before → IsUnderWay g first new after
  pub portion : whole ≡ true → (new.done ≡ true) ⊎ ((new.done ≡ false) × (length after ≡ SCAN_ROWS))
  pub onward : whole ≡ false → (new.done ≡ false) × (length after < SCAN_ROWS)

-- the scan is under way, and keys of its range are still to come
pub record HasMore (cursor : Cursor) : Type 0 where
  pub going : cursor.done ≡ false
  pub ahead : is_below cursor.next cursor.until ≡ true
