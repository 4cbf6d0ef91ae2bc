-- The cells of a closed store, whose contents a seat knows.
use Rattle.std.specs.Prelude.{◌≡◌, ℕ, zero, suc, ◌+◌, ◌<◌, false, List, [], ◌∷◌, ◌++◌, slice_get, Option, Some, None}
use Rattle.seat_views.specs.Keeping.{kept_at}
use Rattle.loaded_cells.specs.VersionSegment.Resting.{RestingRows}
use Rattle.loaded_cells.specs.VersionSegment.Rows.{VersionedRows, IsSameSegment}
use Rattle.loaded_cells.specs.CellsModel.Cells.{CellState}
use Rattle.loaded_cells.specs.CellsModel.Indexed.{new_cell}
use Rattle.loaded_cells.specs.CellsModel.Words.{Spells}
use Rattle.loaded_cells.specs.RuleModel.Sight.{HasCell, Sight}
use Rattle.store_rule.specs.Slots.{RestsAs}

-- the contents that are known of a cell
abbrev pub known_in : Option CellState → VersionedRows
known_in None = new_cell 0
known_in (Some c) = c.segment

-- those of so many first cells
abbrev pub known_segments : Sight → ℕ → List VersionedRows
known_segments v zero = []
known_segments v (suc count) = known_segments v count ++ known_in (kept_at v.cells count) ∷ []

-- this is kept of a packed cell that the view knows
abbrev pub IsAtRest : Sight → ℕ → RestingRows → Type 0
IsAtRest v k resting = (c : CellState) × HasCell v k c × (c.unpacked ≡ false) × RestsAs c.segment resting

-- of the cells from a number on
abbrev pub AreAtRestFrom : Sight → ℕ → List RestingRows → Type 0
AreAtRestFrom v first list =
    (i : ℕ) (resting : RestingRows) → slice_get list i ≡ Some resting → IsAtRest v (first + i) resting

-- of all
abbrev pub AreAtRest : Sight → List RestingRows → Type 0
AreAtRest v list =
    (k : ℕ) (resting : RestingRows) → slice_get list k ≡ Some resting → IsAtRest v k resting

-- the blocks of so many first cells spell their contents
abbrev pub AreSpelled : Sight → ℕ → Type 0
AreSpelled v count = (k : ℕ) (c : CellState) → k < count → HasCell v k c → Spells c.block c.segment

-- the last one is taken out, with the contents that are known of it
abbrev pub IsPopped : List VersionedRows → List VersionedRows → Option VersionedRows → Type 0
IsPopped old new None = (old ≡ []) × (new ≡ [])
IsPopped old new (Some s) = (known : VersionedRows) × (old ≡ new ++ known ∷ []) × IsSameSegment known s
