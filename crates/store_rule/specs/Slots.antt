-- What lies in the slots of the latch table.
use Rattle.std.specs.Prelude.{◌≡◌, ℕ, ◌+◌, ◌<◌, ◌≤◌, false, [], None}
use Rattle.std.specs.declared.alloc.Global.{Global}
use Rattle.std.specs.declared.boxed.Box.{Box}
use Rattle.atomic_table.specs.Seated.{TableId}
use Rattle.atomic_table.specs.declared.shared.Seat.{Seat}
use Rattle.graph_model.specs.declared.journal.Commit.{Commit}
use Rattle.items.specs.Room.{WithRoom}
use Rattle.txn_manager.specs.declared.config.Config.{Config}
use Rattle.loaded_cells.specs.VersionSegment.Resting.{RestingRows, resting_of}
use Rattle.loaded_cells.specs.VersionSegment.Rows.{VersionedRows}
use Rattle.leaf_index.specs.declared.index.LeafIndex.{LeafIndex}
use Rattle.loaded_cells.specs.StoreRelation.Shared.{JournalState}
use Rattle.loaded_cells.specs.CellsModel.Cells.{CellState}
use Rattle.loaded_cells.specs.RuleModel.Sight.{IndexState, Sight, cells_of}
use Rattle.store_words.specs.Notes.{IsNote, cell_note, index_note, journal_note}
use Rattle.store_rule.specs.declared.slot.StoreSlot.{StoreSlot}
use Rattle.store_rule.specs.declared.slot.StoreSlot.TheVariants as slots

-- what is kept of contents beside the words of their block
abbrev pub RestsAs : VersionedRows → RestingRows → Type 0
RestsAs contents resting = resting.rows ≡ (resting_of contents).rows

-- a journal whose stamps are all published, with the room that is counted on
pub record IsListOf (j : JournalState) (journal : WithRoom Commit) : Type 0 where
  pub commits : journal.items ≡ j.commits
  pub next : j.next ≡ []
  pub room : j.room ≤ journal.spare

-- ---- slots

-- a packed cell, with its note
pub record IsCellSlot (table : TableId) (k : ℕ) (slot : StoreSlot) : Type 0 where
  pub resting : RestingRows
  pub note : Seat (Unit {0}) Sight
  pub is : slot ≡ slots.Cell resting note
  pub state : CellState
  pub rests : RestsAs state.segment resting
  pub packed : state.unpacked ≡ false
  pub knows : IsNote table (cell_note k state) note

-- the index, under which nobody sweeps, with its note
pub record IsIndexSlot (table : TableId) (slot : StoreSlot) : Type 0 where
  pub index : Box LeafIndex Global
  pub note : Seat (Unit {0}) Sight
  pub is : slot ≡ slots.Index index note
  pub state : IndexState
  pub same : index.value ≡ state.index
  pub alone : state.sweeper ≡ None
  pub knows : IsNote table (index_note state) note

-- the journal, with its note
pub record IsJournalSlot (table : TableId) (slot : StoreSlot) : Type 0 where
  pub journal : Box (WithRoom Commit) Global
  pub note : Seat (Unit {0}) Sight
  pub is : slot ≡ slots.Journal journal note
  pub state : JournalState
  pub list : IsListOf state journal.value
  pub knows : IsNote table (journal_note state) note

-- what may lie at a place while nobody holds it
pub record FitsPlace (z : Config) (table : TableId) (place : ℕ) (slot : StoreSlot) : Type 0 where
  pub cell : place < cells_of z → IsCellSlot table place slot
  pub index : place ≡ cells_of z → IsIndexSlot table slot
  pub journal : place ≡ cells_of z + 1 → IsJournalSlot table slot
