-- What is kept of cells at first, and what a store with the rows of a load begins with. Only the crate itself speaks of
-- it.
use Rattle.std.specs.Prelude.{◌≡◌, ℕ, List, [], length, slice_get, Some}
use Rattle.graph_model.specs.declared.row.Row.{Row}
use Rattle.loaded_cells.specs.VersionSegment.Resting.{RestingRows}
use Rattle.loaded_cells.specs.Laid.{AreLaid}
use Rattle.loaded_cells.specs.Numbered.{AreRowsOf, loaded_sight, loaded_words, row_counts}
use Rattle.loaded_cells.specs.Ranges.{loaded_segments}
use Rattle.loaded_cells.specs.declared.fill.LoadedRange.{LoadedRange}
use Rattle.store_rule.specs.declared.fill.LaidLoad.{LaidLoad}

-- so many cells have no rows
pub record AreNoRows (count : ℕ) (list : List RestingRows) : Type 0 where
  pub count_is : length list ≡ count
  pub none : (k : ℕ) (resting : RestingRows) → slice_get list k ≡ Some resting → resting.rows ≡ []

-- the words, the numbers of rows and what the seat knows are those of leaves with the rows of the load
pub record IsLaidLoad (laid : LaidLoad) : Type 0 where
  pub rows : List Row
  pub ranges : List LoadedRange
  pub are : AreRowsOf laid.config laid.load rows
  pub divided : AreLaid laid.config.leaves rows laid.index ranges
  pub words : laid.words.items ≡ loaded_words laid.config (loaded_segments ranges)
  pub counts : laid.counts.items ≡ row_counts (loaded_segments ranges)
  pub first : laid.first.me ≡ (loaded_sight laid.config laid.load 0 laid.index (loaded_segments ranges), [])
