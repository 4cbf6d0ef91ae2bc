-- How many rows more cells have after changes of rows in them: the count that bounds when a store
-- may be full.
use Rattle.std.specs.Prelude.{◌≡◌, ℕ, ◌≤◌, Bool, true, false, List, [], ◌∷◌, count_by}
use Rattle.graph_model.specs.declared.row.Key.{Key}
use Rattle.store_model.specs.Stamped.{StampedVersions}
use Rattle.seat_views.specs.Keeping.{revised}
use Rattle.leaf_store.specs.VersionSegment.Rows.{VersionedRows, ChangesKey, IsSegment, has_row}
use Rattle.cells_model.specs.Cells.{CellState}
use Rattle.cells_model.specs.InPlace.{growth}

-- the row of one key changes, and where it adds none the key had one
pub record ChangesRow (old new : VersionedRows) (key : Key) (adds : Bool) : Type 0 where
  pub versions : StampedVersions
  pub changes : ChangesKey old new key versions
  pub sound : IsSegment old
  pub had : adds ≡ false → has_row old key ≡ true

-- each of the news changes one row of its cell as it was then, the last one first
abbrev pub ChangeRows : (ℕ → CellState) → List (ℕ × CellState) → List (Key × Bool) → Type 0
ChangeRows cell [] [] = Unit {0}
ChangeRows cell (e ∷ es) (m ∷ ms) = ChangesRow (revised cell es e.0).segment e.1.segment m.0 m.1
    × ChangeRows cell es ms
ChangeRows cell [] (m ∷ ms) = ⊥
ChangeRows cell (e ∷ es) [] = ⊥

-- no more rows come than changes that may add one, however many cells they lie in
abbrev pub GrowthIsByRows : Type 0
GrowthIsByRows =
    (cell : ℕ → CellState) (news : List (ℕ × CellState)) (marks : List (Key × Bool))
    → ChangeRows cell news marks
    → growth cell news ≤ count_by (λ m. m.1) marks
