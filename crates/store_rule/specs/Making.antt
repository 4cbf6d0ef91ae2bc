-- A store that is being made: what is still to be laid into slots and dealt to passes.
use Rattle.std.specs.Prelude.{◌≡◌, ℕ, ◌+◌, ◌<◌, ◌≤◌, false, List, [], length, slice_get, Some, None}
use Rattle.atomic_table.specs.Seated.{TableId}
use Rattle.atomic_table.specs.declared.shared.Seat.{Seat}
use Rattle.graph_model.specs.declared.journal.Commit.{Commit}
use Rattle.graph_model.specs.declared.write.Write.{Write}
use Rattle.items.specs.Room.{WithRoom}
use Rattle.leaf_index.specs.Index.{Index}
use Rattle.seat_views.specs.Keeping.{kept_at}
use Rattle.loaded_cells.specs.VersionSegment.Resting.{RestingRows}
use Rattle.txn_manager.specs.declared.config.Config.{Config}
use Rattle.latch_table.specs.Latched.{IsIdle, number_of}
use Rattle.loaded_cells.specs.StoreRelation.Loads.{loaded_pass}
use Rattle.loaded_cells.specs.StoreRelation.Passes.{PassState, fresh_pass}
use Rattle.loaded_cells.specs.StoreRelation.Shared.{JournalState}
use Rattle.loaded_cells.specs.CellsModel.Cells.{CellState}
use Rattle.loaded_cells.specs.RuleModel.Sight.{HasCell, HasIndex, HasJournal, HasPass, HasPin, Sight, cells_of, fresh_pin}
use Rattle.store_words.specs.Notes.{IsNote, pass_note}
use Rattle.store_rule.specs.declared.buffers.TheConstants.{MOST_UNPACKED}
use Rattle.store_rule.specs.declared.slot.Room.{Room}
use Rattle.store_rule.specs.declared.slot.StoreSlot.{StoreSlot}
use Rattle.store_rule.specs.declared.store.Pass.{Pass}
use Rattle.store_rule.specs.declared.make.Parts.{Parts}
use Rattle.store_rule.specs.Slots.{FitsPlace, IsCellSlot, IsListOf, RestsAs}

-- the passes below a number are still to be dealt, as this view has them
pub record IsDealing (table : TableId) (v : Sight) (number : ℕ) (seat : Seat (Unit {0}) Sight)
    : Type 0 where
  pub table_is : seat.table_id ≡ table
  pub slots : seat.me.1 ≡ []
  pub passes : (p : ℕ) → p < number → (st : PassState) × HasPass v p st × HasPass seat.me.0 p st
  pub pins : (p : ℕ) → p < number → HasPin seat.me.0 p fresh_pin
  pub readers : seat.me.0.readers ≡ []

-- so are all passes, the index and the journal, and the cells from a number on
pub record IsLaying (z : Config) (table : TableId) (v : Sight) (cell : ℕ)
    (seat : Seat (Unit {0}) Sight) : Type 0 where
  pub dealing : IsDealing table v z.passes seat
  pub cells : (k : ℕ) → cell ≤ k → k < cells_of z → kept_at seat.me.0.cells k ≡ kept_at v.cells k
  pub index : kept_at seat.me.0.indexes 0 ≡ kept_at v.indexes 0
  pub journal : kept_at seat.me.0.journals 0 ≡ kept_at v.journals 0

-- the view knows the cell as packed, with contents of which that is kept
pub record KnowsResting (v : Sight) (k : ℕ) (resting : RestingRows) : Type 0 where
  pub cell : CellState
  pub has : HasCell v k cell
  pub packed : cell.unpacked ≡ false
  pub rests : RestsAs cell.segment resting

-- for all cells in the order of their numbers
pub record KnowsAllResting (z : Config) (v : Sight) (list : List RestingRows) : Type 0 where
  pub count : length list ≡ cells_of z
  pub each : (k : ℕ) (resting : RestingRows) → slice_get list k ≡ Some resting → KnowsResting v k resting

-- the view knows an index of these leaves under which nobody sweeps
abbrev pub KnowsIndex : Sight → Index → Type 0
KnowsIndex v index = HasIndex v (record { index = index; sweeper = None })

-- the view knows what is in this journal
abbrev pub KnowsJournal : Sight → WithRoom Commit → Type 0
KnowsJournal v journal = (j : JournalState) × HasJournal v j × IsListOf j journal

-- all that is to lie in slots
pub record KnowsParts (z : Config) (v : Sight) (parts : Parts) : Type 0 where
  pub cells : KnowsAllResting z v parts.resting.items
  pub index : KnowsIndex v parts.index
  pub journal : KnowsJournal v parts.journal

-- each of these lies at its place
abbrev pub AreCells : TableId → List StoreSlot → Type 0
AreCells table slots =
    (k : ℕ) (slot : StoreSlot) → slice_get slots k ≡ Some slot → IsCellSlot table k slot

pub record AreSlots (z : Config) (table : TableId) (slots : List StoreSlot) : Type 0 where
  pub count : length slots ≡ cells_of z + 2
  pub fit : (place : ℕ) (slot : StoreSlot) → slice_get slots place ≡ Some slot
      → FitsPlace z table place slot

-- ---- passes

-- it holds nothing and knows that it has done that, and has room for the rows of all cells that it
-- may have unpacked
pub record IsFirstPass (room : Room) (latches accounts : TableId) (p : ℕ) (state : PassState)
    (pass : Pass) : Type 0 where
  pub number : pass.number ≡ p
  pub latch : IsIdle room.config.passes room latches pass.latch
  pub same : number_of pass.latch.me.0 ≡ p
  pub account : IsNote accounts (pass_note p state fresh_pin) pass.account
  pub buffers : pass.buffers ≡ MOST_UNPACKED

-- from a number on, as this view has them
abbrev pub AreDealtFrom : Room → TableId → TableId → Sight → ℕ → List Pass → Type 0
AreDealtFrom room latches accounts v first list =
    (i : ℕ) (pass : Pass) → slice_get list i ≡ Some pass
    → (st : PassState) × HasPass v (first + i) st × IsFirstPass room latches accounts (first + i) st pass

pub record AreDealt (room : Room) (latches accounts : TableId) (v : Sight) (list : List Pass)
    : Type 0 where
  pub count : length list ≡ room.config.passes
  pub dealt : AreDealtFrom room latches accounts v 0 list

-- it has begun nothing
abbrev pub IsNewPass : Room → TableId → TableId → ℕ → Pass → Type 0
IsNewPass room latches accounts p pass = IsFirstPass room latches accounts p fresh_pass pass

-- from a number on
abbrev pub AreNewFrom : Room → TableId → TableId → ℕ → List Pass → Type 0
AreNewFrom room latches accounts first list =
    (i : ℕ) (pass : Pass) → slice_get list i ≡ Some pass
    → IsNewPass room latches accounts (first + i) pass

pub record AreNewPasses (room : Room) (latches accounts : TableId) (list : List Pass) : Type 0 where
  pub count : length list ≡ room.config.passes
  pub new : AreNewFrom room latches accounts 0 list

-- as `AreNewPasses`, where pass 0 has made the writes of a load and committed them
pub record AreLoadedPasses (load : List Write) (room : Room) (latches accounts : TableId)
    (list : List Pass) : Type 0 where
  pub count : length list ≡ room.config.passes
  pub each : (p : ℕ) (pass : Pass) → slice_get list p ≡ Some pass
      → IsFirstPass room latches accounts p (loaded_pass load p) pass
