-- A holder stores the words of a block one after the other.
use Rattle.std.specs.Prelude.{◌≡◌, ◌≢◌, ℕ, ◌+◌, ◌<◌, true, false, List, length, slice_get, slice_index, Some}
use Rattle.atomic_table.specs.declared.shared.Seat.{Seat}
use Rattle.seat_views.specs.Keeping.{kept_at}
use Rattle.graph_model.specs.declared.row.Key.{Key}
use Rattle.graph_model.specs.declared.row.Row.{Row}
use Rattle.rule_model.specs.VersionSegment.Rows.{VersionedRows, IsSegment}
use Rattle.rule_model.specs.CellsModel.Cells.{CellState, last_word, version_word}
use Rattle.rule_model.specs.VersionSegment.Resting.{word_rows}
use Rattle.rule_model.specs.CellsModel.Words.{HasSmallWeights, Spells, block_words, spelled}
use Rattle.rule_model.specs.Sight.{HasCell, Sight}

-- the view knows of one cell what it may not have known, and all else is as it was
pub record KeepsOtherCells (k : ℕ) (old new : Sight) : Type 0 where
  pub passes : new.passes ≡ old.passes
  pub pins : new.pins ≡ old.pins
  pub cells : (l : ℕ) → l ≢ k → kept_at new.cells l ≡ kept_at old.cells l
  pub indexes : new.indexes ≡ old.indexes
  pub journals : new.journals ≡ old.journals
  pub told : new.told ≡ old.told
  pub readers : new.readers ≡ old.readers
  pub reads : new.reads ≡ old.reads

-- so many words of the block, behind the version word, are those that spell this; the cell is
-- still unpacked, and its contents are as they were
pub record IsSpelling (k : ℕ) (old : Sight) (c : CellState) (low high : Key) (rows : List Row)
    (count : ℕ) (new : Sight) : Type 0 where
  pub cell : CellState
  pub has : HasCell new k cell
  pub segment : cell.segment ≡ c.segment
  pub unpacked : cell.unpacked ≡ true
  pub wide : length cell.block ≡ block_words
  pub words : (i n : ℕ) → i < count → slice_get (spelled low high rows) i ≡ Some n
      → slice_index cell.block (i + 1) ≡ n
  pub changed : 0 < count → cell.changed ≡ true
  pub others : KeepsOtherCells k old new

-- a seat of the same table, with the same slots
pub record Stays (old new : Seat (Unit {0}) Sight) : Type 0 where
  pub table : new.table_id ≡ old.table_id
  pub slots : new.me.1 ≡ old.me.1

-- ---- a cell that is packed

-- these are the fence keys and rows of the contents, which a block may spell
pub record CanSpell (low high : Key) (rows : List Row) (s : VersionedRows) : Type 0 where
  pub low_is : low ≡ s.low
  pub high_is : high ≡ s.high
  pub rows_are : rows ≡ word_rows s
  pub sound : IsSegment s
  pub small : HasSmallWeights s

-- no word of the block was stored since the cell was unpacked, and it spells the contents
pub record IsUntouched (c : CellState) : Type 0 where
  pub quiet : version_word c ≢ last_word → c.changed ≡ false
  pub spells : Spells c.block c.segment

-- the cell is packed, with the contents that it had, and all else is as it was
pub record IsPackedAgain (k : ℕ) (old : Sight) (c : CellState) (new : Sight) : Type 0 where
  pub cell : CellState
  pub has : HasCell new k cell
  pub segment : cell.segment ≡ c.segment
  pub packed : cell.unpacked ≡ false
  pub others : KeepsOtherCells k old new
