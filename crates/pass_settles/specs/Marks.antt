-- The words of a block whose rows are settled one after the other, the last one first.
use Rattle.std.specs.Prelude.{◌≡◌, ℕ, ◌+◌, ◌≤◌, true, List, length, map, slice_get, slice_index, Some, IsSomeAnd}
use Rattle.std.specs.List.{AllByRecursion}
use Rattle.graph_model.specs.declared.limits.TheConstants.{MAX_WEIGHT}
use Rattle.pass_sweeps.specs.VersionSegment.Resting.{newest_value, word_row}
use Rattle.pass_sweeps.specs.VersionSegment.Rows.{VersionedRows}
use Rattle.pass_sweeps.specs.CellsModel.Cells.{CellState}
use Rattle.pass_sweeps.specs.CellsModel.Words.{block_words, spelled}
use Rattle.pass_sweeps.specs.RuleModel.Sight.{HasCell, Sight}
use Rattle.pass_sweeps.specs.StoreWords.Spelling.{KeepsOtherCells}
use Rattle.pass_sweeps.specs.VersionSegment.Settling.{settled_from}

-- each row has a value, which may be stored
abbrev pub HasValues : VersionedRows → Type 0
HasValues s = AllByRecursion (λ row. IsSomeAnd (newest_value row.1) (λ weight. weight ≤ MAX_WEIGHT)) s.rows

-- the block spells the fence keys and rows, of which those from a place on are settled
pub record IsHalfSettled (s : VersionedRows) (place : ℕ) (block : List ℕ) : Type 0 where
  pub wide : length block ≡ block_words
  pub words : (i n : ℕ) → slice_get (spelled s.low s.high (map word_row (settled_from place s.rows))) i ≡ Some n
      → slice_index block (i + 1) ≡ n

-- Words of an unpacked cell were stored, so that its block does; its contents are as they were, and so is all else.
pub record IsClearing (k : ℕ) (s : VersionedRows) (place : ℕ) (old : Sight) (c : CellState) (new : Sight)
    : Type 0 where
  pub cell : CellState
  pub has : HasCell new k cell
  pub segment : cell.segment ≡ c.segment
  pub unpacked : cell.unpacked ≡ true
  pub changed : cell.changed ≡ true
  pub half : IsHalfSettled s place cell.block
  pub others : KeepsOtherCells k old new
