-- Scans by steps: what has been given, and what is still to come.
use Rattle.std.specs.Prelude.{◌≡◌, ◌⊎◌, ◌<◌, true, false, List, [], ◌++◌, length, cond}
use Rattle.graph_model.specs.declared.limits.TheConstants.{SCAN_ROWS}
use Rattle.graph_model.specs.declared.row.Key.{Key}
use Rattle.graph_model.specs.declared.row.Row.{Row}
use Rattle.graph_model.specs.declared.row.Cursor.{Cursor}
use Rattle.graph_model.specs.Graph.{Graph}
use Rattle.graph_model.specs.Rows.{is_below}
use Rattle.graph_model.specs.Scans.{rows_left, ScansBy}

-- the lesser of the end of a cell's keys and the end of the scan
abbrev pub end_of : Key → Cursor → Key
end_of high cursor = cond (is_below high cursor.until) high cursor.until

-- A scan that began at the first cursor has given these rows, and the others are still to come. It is done only where
-- none is, and the buffer isn't full.
pub record IsUnderWay (g : Graph) (first now : Cursor) (given : List Row) : Type 0 where
  pub until : now.until ≡ first.until
  pub kept : given ++ rows_left g now ≡ rows_left g first
  pub ended : now.done ≡ true → (rows_left g now ≡ []) × (length given < SCAN_ROWS)

-- ---- laws

-- before its first step a scan has given nothing
abbrev pub ScanBegins : Type 0
ScanBegins = (g : Graph) (first : Cursor) → first.done ≡ false → IsUnderWay g first first []

-- where no key is left there are no rows, and the scan may be done
abbrev pub NoKeyIsLeft : Type 0
NoKeyIsLeft = (g : Graph) (first now : Cursor) (given : List Row) → is_below now.next now.until ≡ false
    → length given < SCAN_ROWS → IsUnderWay g first now given → IsUnderWay g first (record now { done = true }) given

-- a scan that is done, or whose buffer is full, has given the next portion
abbrev pub StepsAreAScan : Type 0
StepsAreAScan = (g : Graph) (first now : Cursor) (given : List Row) → IsUnderWay g first now given
    → (now.done ≡ true) ⊎ ((now.done ≡ false) × (length given ≡ SCAN_ROWS)) → ScansBy g first now given
