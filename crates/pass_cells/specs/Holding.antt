-- What a pass has in hand: the latches of cells, and what its view knows of them.
use Rattle.std.specs.Prelude.{◌≡◌, ℕ, ◌+◌, ◌<◌, ◌≤◌, true, false, List, [], ◌∷◌, ◌++◌, map, length}
use Rattle.std.specs.List.{AllByRecursion}
use Rattle.graph_model.specs.declared.row.Key.{Key}
use Rattle.atomic_table.specs.declared.shared.Seat.{Seat}
use Rattle.txn_manager.specs.declared.config.Config.{Config}
use Rattle.latch_table.specs.declared.cells.Held.{Held}
use Rattle.latch_table.specs.declared.sight.LatchSight.{LatchSight}
use Rattle.latch_table.specs.Latched.{IsPassOf, number_of}
use Rattle.row_writes.specs.VersionSegment.Rows.{IsSameSegment, IsSegment, VersionedRows, versions_at}
use Rattle.row_writes.specs.Held.{HeldRows}
use Rattle.store_rule.specs.CellsModel.Cells.{CellState, unpacked}
use Rattle.store_rule.specs.CellsModel.Words.{HasSmallWeights, block_words}
use Rattle.store_rule.specs.RuleModel.NoteSteps.{HasRow}
use Rattle.store_rule.specs.RuleModel.Sight.{HasCell, Sight, cells_of, with_cell}
use Rattle.store_rule.specs.StoreWords.Spelling.{IsUntouched}
use Rattle.store_rule.specs.Packing.{LendsBuffer}
use Rattle.store_rule.specs.Slots.{FitsPlace}
use Rattle.store_rule.specs.declared.buffers.TheConstants.{MOST_UNPACKED}
use Rattle.store_rule.specs.declared.slot.Room.{Room}
use Rattle.store_rule.specs.declared.slot.StoreSlot.{StoreSlot}
use Rattle.store_rule.specs.declared.slot.StoreSlot.TheVariants as slots
use Rattle.store_rule.specs.declared.store.Pass.{Pass}
use Rattle.store_rule.specs.declared.store.Store.{Store}
use Rattle.pass_cells.specs.declared.taken.TakenCell.{TakenCell}
use Rattle.pass_cells.specs.Taken.{AreApart, AreRising, held_rows, is_taken}

-- ---- one cell

-- The view knows the cell as unpacked, with the contents that are in hand. They are a segment that may be packed; its
-- block spells it, unless words are said to be changed.
pub record IsKnown (z : Config) (v : Sight) (t : TakenCell) : Type 0 where
  pub state : CellState
  pub has : HasCell v t.held.cell state
  pub inside : t.held.cell < cells_of z
  pub unpacked : state.unpacked ≡ true
  pub wide : length state.block ≡ block_words
  pub same : IsSameSegment state.segment t.held.value
  pub sound : IsSegment t.held.value
  pub small : HasSmallWeights t.held.value
  pub untouched : t.words_changed ≡ false → IsUntouched state
  -- so many rows are known
  pub count : t.rows ≡ length t.held.value.rows

abbrev pub AreKnown : Config → Sight → List TakenCell → Type 0
AreKnown z v ts = AllByRecursion (IsKnown z v) ts

-- ---- all cells in hand

-- the numbers of cells in the order in which they were taken
abbrev pub numbers_of : List TakenCell → List ℕ
numbers_of ts = map {A = TakenCell} (λ t. t.held.cell) ts

-- the slots that are out where these were taken, the last one first
abbrev pub slots_out : List ℕ → List (ℕ × StoreSlot)
slots_out [] = []
slots_out (k ∷ ks) = slots_out ks ++ (k, slots.Out) ∷ []

-- the seat is of the store's latch table
abbrev pub IsLatchOf : Store → Seat StoreSlot (LatchSight Room) → Type 0
IsLatchOf store seat = IsPassOf store.latches.table.shared.key.config.passes store.latches.table.shared.key
    store.latches.table.shared.table_id seat

-- the pass has the latches of these few cells and knows them; it has no other cell, and not the index
pub record HasTaken (store : Store) (pass : Pass) (ts : List TakenCell) : Type 0 where
  pub latch : IsLatchOf store pass.latch
  pub out : pass.latch.me.1 ≡ slots_out (numbers_of ts)
  pub table : pass.account.table_id ≡ store.accounts.table.shared.table_id
  pub known : AreKnown store.accounts.config pass.account.me.0 ts
  pub only : (k : ℕ) (c : CellState) → HasCell pass.account.me.0 k c → is_taken k ts ≡ true
  pub apart : AreApart ts
  pub few : length ts ≤ 4
  -- they have room for their rows from it
  pub buffers : pass.buffers + length ts ≡ MOST_UNPACKED
  pub no_index : pass.account.me.0.indexes ≡ []

-- and they stand in the order of their fence keys
pub record Holds (store : Store) (pass : Pass) (ts : List TakenCell) : Type 0 where
  pub taken : HasTaken store pass ts
  pub rising : AreRising ts

-- the pass has no cell in hand, and not the index
pub record HoldsNone (store : Store) (pass : Pass) : Type 0 where
  pub latch : IsLatchOf store pass.latch
  pub out : pass.latch.me.1 ≡ []
  pub table : pass.account.table_id ≡ store.accounts.table.shared.table_id
  pub cells : pass.account.me.0.cells ≡ []
  pub buffers : pass.buffers ≡ MOST_UNPACKED
  pub indexes : pass.account.me.0.indexes ≡ []

-- ---- what a call leaves of a pass

-- it is the same pass, which knows the same transactions, pins, journal, commits and readers
pub record KeepsPass (old new : Pass) : Type 0 where
  pub number : new.number ≡ old.number
  pub latch : number_of new.latch.me.0 ≡ number_of old.latch.me.0
  pub slots : new.account.me.1 ≡ old.account.me.1
  pub passes : new.account.me.0.passes ≡ old.account.me.0.passes
  pub pins : new.account.me.0.pins ≡ old.account.me.0.pins
  pub journals : new.account.me.0.journals ≡ old.account.me.0.journals
  pub told : new.account.me.0.told ≡ old.account.me.0.told
  pub readers : new.account.me.0.readers ≡ old.account.me.0.readers
  pub reads : new.account.me.0.reads ≡ old.account.me.0.reads

-- ---- rows of the view and rows in hand

-- a row that the view has in a cell is in hand, with the same versions; and the other way
pub record AreSameRows (z : Config) (v : Sight) (c : HeldRows) : Type 0 where
  pub held : (k : ℕ) (d : CellState) (q : Key) → HasRow z v k d q
      → (c.holds q ≡ true) × (c.versions q ≡ versions_at d.segment q)
  pub known : (q : Key) → c.holds q ≡ true
      → (k : ℕ) × (d : CellState) × HasRow z v k d q × (c.versions q ≡ versions_at d.segment q)

abbrev pub RowsAreKnown : Type 0
RowsAreKnown = (store : Store) (pass : Pass) (ts : List TakenCell) → Holds store pass ts
    → AreSameRows store.accounts.config pass.account.me.0 (held_rows ts)

-- ---- cells that may be put back

-- each of these fits its place
abbrev pub AreFit : Store → List (Held StoreSlot) → Type 0
AreFit store helds = AllByRecursion (λ h. FitsPlace store.accounts.config store.accounts.table.shared.table_id
    h.cell h.value × (h.cell < cells_of store.accounts.config + 2)) helds

-- a pass has taken in the cell's note, and has unpacked it in room of its own
pub record IsGathered (z : Config) (old new : Pass) (held : Held VersionedRows) : Type 0 where
  pub state : CellState
  pub account : LendsBuffer old new (with_cell (with_cell old.account.me.0 held.cell state) held.cell (unpacked state))
  pub same : IsSameSegment state.segment held.value
  pub untouched : IsUntouched (unpacked state)

-- Of the cells that a pass had, some are packed and have their notes, and the others are in hand.
pub record IsPutting (store : Store) (old new : Pass) (all left : List TakenCell) (packed : List (Held StoreSlot))
    : Type 0 where
  pub kept : KeepsPass old new
  pub latch : new.latch ≡ old.latch
  pub table : new.account.table_id ≡ store.accounts.table.shared.table_id
  pub numbers : map {A = Held StoreSlot} (λ h. h.cell) packed ++ numbers_of left ≡ numbers_of all
  pub fit : AreFit store packed
  pub known : AreKnown store.accounts.config new.account.me.0 left
  pub only : (k : ℕ) (c : CellState) → HasCell new.account.me.0 k c → is_taken k left ≡ true
  pub apart : AreApart left
  pub buffers : new.buffers + length left ≡ MOST_UNPACKED
  pub no_index : new.account.me.0.indexes ≡ []
