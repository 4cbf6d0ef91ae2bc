-- A store that is taken apart: passes come back, and notes are taken in.
use Rattle.std.specs.Prelude.{◌≡◌, ◌≢◌, ℕ, ◌≤◌, List, [], length, slice_get, Some, None}
use Rattle.atomic_table.specs.Seated.{TableId}
use Rattle.atomic_table.specs.declared.shared.Seat.{Seat}
use Rattle.seat_views.specs.Keeping.{kept_at}
use Rattle.txn_manager.specs.declared.config.Config.{Config}
use Rattle.latch_table.specs.Latched.{IsIdle, number_of}
use Rattle.loaded_cells.specs.VersionSegment.Rows.{VersionedRows, IsSameSegment}
use Rattle.loaded_cells.specs.StoreRelationDeclared.stage.Stage.TheVariants.{Idle}
use Rattle.loaded_cells.specs.StoreRelation.Passes.{PassState}
use Rattle.loaded_cells.specs.StoreRelation.Shared.{JournalState}
use Rattle.loaded_cells.specs.CellsModel.Cells.{CellState}
use Rattle.loaded_cells.specs.RuleModel.EndSteps.{IsLast}
use Rattle.loaded_cells.specs.RuleModel.Sight.{HasCell, HasIndex, HasPass, IndexState, Sight, cells_of}
use Rattle.store_rule.specs.declared.close.Content.{Content}
use Rattle.store_rule.specs.declared.slot.Room.{Room}
use Rattle.store_rule.specs.declared.slot.StoreSlot.{StoreSlot}
use Rattle.store_rule.specs.declared.store.Pass.{Pass}
use Rattle.store_rule.specs.declared.store.Store.{Store}
use Rattle.store_rule.specs.Slots.{FitsPlace, IsListOf}

-- ---- passes

-- it holds no cell, has no open transaction and no row left to stamp; it knows no other pass, and is no reader
pub record IsBackPass (room : Room) (latches accounts : TableId) (p : ℕ) (pass : Pass) : Type 0 where
  pub latch : IsIdle room.config.passes room latches pass.latch
  pub same : number_of pass.latch.me.0 ≡ p
  pub account : pass.account.table_id ≡ accounts
  pub slots : pass.account.me.1 ≡ []
  pub state : PassState
  pub has : HasPass pass.account.me.0 p state
  pub stage : state.stage ≡ Idle
  pub stamped : state.unstamped ≡ []
  pub only : (q : ℕ) → q ≢ p → kept_at pass.account.me.0.passes q ≡ None
  pub readers : pass.account.me.0.readers ≡ []

abbrev pub AreBackPasses : Room → TableId → TableId → List Pass → Type 0
AreBackPasses room latches accounts list =
    (p : ℕ) (pass : Pass) → slice_get list p ≡ Some pass → IsBackPass room latches accounts p pass

-- all passes of a store are back
pub record AreBack (store : Store) (list : List Pass) : Type 0 where
  pub count : length list ≡ store.accounts.config.passes
  pub each : AreBackPasses store.latches.table.shared.key store.latches.table.shared.table_id
      store.accounts.table.shared.table_id list

-- the view has taken in the passes from a number on
abbrev pub HasJoined : List Pass → ℕ → Sight → Type 0
HasJoined list first v =
    (p : ℕ) (pass : Pass) → first ≤ p → slice_get list p ≡ Some pass
    → kept_at v.passes p ≡ kept_at pass.account.me.0.passes p

-- a seat of the table that takes in what there is
pub record IsEnding (table : TableId) (seat : Seat (Unit {0}) Sight) : Type 0 where
  pub table_is : seat.table_id ≡ table
  pub slots : seat.me.1 ≡ []
  pub readers : seat.me.0.readers ≡ []

-- ---- slots

-- so many first places have their slots
pub record AreSlotsBelow (z : Config) (table : TableId) (count : ℕ) (slots : List StoreSlot)
    : Type 0 where
  pub count_is : length slots ≡ count
  pub fit : (place : ℕ) (slot : StoreSlot) → slice_get slots place ≡ Some slot
      → FitsPlace z table place slot

-- the view knows contents of which the segment is
abbrev pub IsOfCell : Sight → ℕ → VersionedRows → Type 0
IsOfCell v k s = (c : CellState) × HasCell v k c × IsSameSegment c.segment s

-- these are of the cells in the order of their numbers
abbrev pub AreCells : Sight → List VersionedRows → Type 0
AreCells v list = (k : ℕ) (s : VersionedRows) → slice_get list k ≡ Some s → IsOfCell v k s

-- passes, index and journal are as they were
pub record KeepsOthers (old new : Sight) : Type 0 where
  pub passes : new.passes ≡ old.passes
  pub indexes : new.indexes ≡ old.indexes
  pub journals : new.journals ≡ old.journals

-- ---- what comes out

-- One view knows all: it is that of a closed store, and has each pass as it came back. The
-- segments are those of its cells, and the index and the journal are its own.
pub record IsContent (z : Config) (list : List Pass) (content : Content) : Type 0 where
  pub sight : Sight
  pub state : JournalState
  pub last : IsLast z sight state
  pub passes : HasJoined list 0 sight
  pub journal : IsListOf state content.journal
  pub count : length content.cells ≡ cells_of z
  pub cells : AreCells sight content.cells
  pub index : (y : IndexState) × HasIndex sight y × (content.index.value ≡ y.index)
