-- What a read learns of a block, should its second load find the first word again.
use Rattle.std.specs.Prelude.{◌≡◌, ℕ, ◌+◌, ◌*◌, true, false, List, [], length, slice_get, Option, Some}
use Rattle.atomic_table.specs.declared.shared.Seat.{Seat}
use Rattle.atomic_table.specs.Seated.{TableId}
use Rattle.graph_model.specs.declared.row.Key.{Key}
use Rattle.graph_model.specs.declared.row.Row.{Row}
use Rattle.txn_manager.specs.declared.config.Config.{Config}
use Rattle.pass_steps.specs.VersionSegment.Keyed.{IsPlaceBy}
use Rattle.pass_steps.specs.VersionSegment.Resting.{word_rows}
use Rattle.pass_steps.specs.VersionSegment.Rows.{VersionedRows}
use Rattle.pass_steps.specs.CellsModel.BlockLaws.{row_key}
use Rattle.pass_steps.specs.CellsModel.Reads.{AreLoadedFrom, Reading}
use Rattle.pass_steps.specs.CellsModel.Words.{Spells}
use Rattle.pass_steps.specs.RuleModel.Sight.{Sight, with_reading}
use Rattle.pass_steps.specs.StoreWords.Reads.{IsBlockOf, word_read}
use Rattle.optimistic_read.specs.declared.block.BlockRead.{BlockRead}
use Rattle.optimistic_read.specs.declared.decode.Head.{Head}
use Rattle.optimistic_read.specs.declared.decode.LookedUp.{LookedUp}

-- ---- a read under way

-- a seat of this table may load words of its block
pub record CanLoad (z : Config) (table : TableId) (seat : Seat (Unit {0}) Sight) (read : BlockRead) : Type 0 where
  pub same : seat.table_id ≡ table
  pub block : IsBlockOf z read.block

-- its version word was found, and nothing was loaded since
abbrev pub begun_read : ℕ → ℕ → Option Reading
begun_read cell first = Some (record { cell = cell; first = first; loaded = []; valid = false })

-- a read of the cell is under way, and this holds of all contents whose block has the words that were loaded
pub record IsReadingOn (cell first : ℕ) (v : Sight) (knows : VersionedRows → Type 0) : Type 0 where
  pub reading : Reading
  pub is : v.reads.reading ≡ Some reading
  pub cell_is : reading.cell ≡ cell
  pub first_is : reading.first ≡ first
  pub fact : (block : List ℕ) (s : VersionedRows) → AreLoadedFrom block reading.loaded → Spells block s → knows s

-- the view is as it was, but for the read
abbrev pub IsStill : Sight → Sight → Type 0
IsStill old new = new ≡ with_reading old new.reads.reading

-- so it is of a seat that has loaded words
pub record StillReads (old new : Seat (Unit {0}) Sight) : Type 0 where
  pub table : new.table_id ≡ old.table_id
  pub view : IsStill old.me.0 new.me.0
  pub slots : new.me.1 ≡ old.me.1

-- the view after the loads of a key, and of a row
abbrev pub key_read : Sight → ℕ → Key → Sight
key_read v word key = word_read (word_read v word key.src) (word + 1) key.second

abbrev pub row_read : Sight → ℕ → Row → Sight
row_read v place row = word_read (key_read v (6 + 3 * place) row.key) (8 + 3 * place) row.weight

-- ---- what was loaded

-- of any contents nothing is known
abbrev pub AnyContents : VersionedRows → Type 0
AnyContents s = Unit {0}

-- so many rows, between these fence keys
pub record IsHead (h : Head) (s : VersionedRows) : Type 0 where
  pub count : h.count ≡ length (word_rows s)
  pub low : h.low ≡ s.low
  pub high : h.high ≡ s.high

-- so many rows are below the key
pub record IsSearched (h : Head) (key : Key) (place : ℕ) (s : VersionedRows) : Type 0 where
  pub head : IsHead h s
  pub place_is : IsPlaceBy row_key (word_rows s) key place

-- and behind them stands this row, or none
pub record IsLookedUp (l : LookedUp) (key : Key) (s : VersionedRows) : Type 0 where
  pub head : IsHead l.head s
  pub place : ℕ
  pub place_is : IsPlaceBy row_key (word_rows s) key place
  pub row : slice_get (word_rows s) place ≡ l.row

-- ---- validated

-- the view shows the block of the cell as validated: the second load has found the first word again
pub record IsValid (v : Sight) (cell : ℕ) : Type 0 where
  pub reading : Reading
  pub is : v.reads.reading ≡ Some reading
  pub cell_is : reading.cell ≡ cell
  pub valid : reading.valid ≡ true
