-- Leaves that a pass has in hand, and the index: their latches, and what the pass's view knows of them.
use Rattle.std.specs.Prelude.{◌≡◌, ℕ, zero, suc, ◌+◌, ◌*◌, ◌<◌, true, false, List, [], ◌∷◌, ◌++◌, map, length, Some, None}
use Rattle.std.specs.List.{AllByRecursion}
use Rattle.std.specs.declared.alloc.Global.{Global}
use Rattle.std.specs.declared.boxed.Box.{Box}
use Rattle.atomic_table.specs.declared.shared.Seat.{Seat}
use Rattle.graph_model.specs.declared.row.Key.{Key}
use Rattle.txn_manager.specs.declared.config.Config.{Config}
use Rattle.leaf_index.specs.Calls.{IsLeafRange}
use Rattle.leaf_index.specs.Index.{Index}
use Rattle.leaf_index.specs.declared.index.LeafIndex.{LeafIndex}
use Rattle.leaf_index.specs.declared.route.LeafRange.{LeafRange}
use Rattle.latch_table.specs.declared.cells.Held.{Held}
use Rattle.latch_table.specs.declared.sight.LatchSight.{LatchSight}
use Rattle.latch_table.specs.Several.{taken_of}
use Rattle.seat_views.specs.Keeping.{kept_at}
use Rattle.pass_cells.specs.CellsModel.Cells.{CellState}
use Rattle.pass_cells.specs.RuleModel.Sight.{HasCell, HasIndex, IndexState, Sight, cells_of}
use Rattle.pass_cells.specs.StoreRule.Slots.{IsCellSlot}
use Rattle.pass_cells.specs.StoreRuleDeclared.buffers.TheConstants.{MOST_UNPACKED}
use Rattle.pass_cells.specs.StoreRuleDeclared.slot.Room.{Room}
use Rattle.pass_cells.specs.StoreRuleDeclared.slot.StoreSlot.{StoreSlot}
use Rattle.pass_cells.specs.StoreRuleDeclared.slot.StoreSlot.TheVariants as slots
use Rattle.pass_cells.specs.StoreRuleDeclared.store.Pass.{Pass}
use Rattle.pass_cells.specs.StoreRuleDeclared.store.Store.{Store}
use Rattle.pass_cells.specs.declared.taken.TakenCell.{TakenCell}
use Rattle.pass_cells.specs.Holding.{AreKnown, IsLatchOf, KeepsPass, numbers_of, slots_out}
use Rattle.pass_cells.specs.Taken.{AreApart, is_taken}

-- ---- the cells of leaves

-- so many numbers from one on
abbrev pub numbers_from : ℕ → ℕ → List ℕ
numbers_from from zero = []
numbers_from from (suc count) = from ∷ numbers_from (suc from) count

-- the numbers of the cells of these leaves, one leaf behind the other
abbrev pub cells_of_leaves : List ℕ → List ℕ
cells_of_leaves [] = []
cells_of_leaves (l ∷ ls) = numbers_from (8 * l) 8 ++ cells_of_leaves ls

-- the range of the leaf holds the key
abbrev pub IsLeafOfKey : Key → Index → ℕ → Type 0
IsLeafOfKey key index leaf = (range : LeafRange) × IsLeafRange key index.entries range × (range.leaf ≡ leaf)

-- ---- cells that are taken

abbrev pub numbers_held : List (Held StoreSlot) → List ℕ
numbers_held helds = map {A = Held StoreSlot} (λ h. h.cell) helds

-- a cell as it was taken from its slot
pub record IsCellHeld (store : Store) (h : Held StoreSlot) : Type 0 where
  pub inside : h.cell < cells_of store.accounts.config
  pub slot : IsCellSlot store.accounts.table.shared.table_id h.cell h.value
  pub unchanged : h.changed ≡ false

abbrev pub AreCellsHeld : Store → List (Held StoreSlot) → Type 0
AreCellsHeld store helds = AllByRecursion (IsCellHeld store) helds

-- a seat has the latches of these cells, and of no other place
pub record HasLatched (store : Store) (latch : Seat StoreSlot (LatchSight Room)) (helds : List (Held StoreSlot))
    : Type 0 where
  pub latch_of : IsLatchOf store latch
  pub out : latch.me.1 ≡ taken_of slots.Out helds
  pub held : AreCellsHeld store helds

-- of the cells that were taken some are unpacked and known, and the others are as they were taken
pub record IsUnpacking (store : Store) (old new : Pass) (all left : List (Held StoreSlot)) (ts : List TakenCell)
    : Type 0 where
  pub kept : KeepsPass old new
  pub latch : new.latch ≡ old.latch
  pub table : new.account.table_id ≡ store.accounts.table.shared.table_id
  pub numbers : numbers_of ts ++ numbers_held left ≡ numbers_held all
  pub held : AreCellsHeld store left
  pub known : AreKnown store.accounts.config new.account.me.0 ts
  pub only : (k : ℕ) (c : CellState) → HasCell new.account.me.0 k c → is_taken k ts ≡ true
  pub apart : AreApart ts
  pub buffers : new.buffers + length ts ≡ MOST_UNPACKED
  pub indexes : new.account.me.0.indexes ≡ old.account.me.0.indexes

-- ---- the index

-- the view knows the index as it is in hand, under which nobody sweeps
pub record HasIndexHeld (z : Config) (v : Sight) (index : Held (Box LeafIndex Global)) : Type 0 where
  pub place : index.cell ≡ cells_of z
  pub state : IndexState
  pub has : HasIndex v state
  pub same : index.value.value ≡ state.index
  pub alone : state.sweeper ≡ None
  pub only : (k : ℕ) (y : IndexState) → kept_at v.indexes k ≡ Some y → k ≡ 0

-- ---- all that is in hand

-- the pass has the latches of all cells of these leaves, and of the index as the last one; its view knows each cell
-- as unpacked, and no other cell
pub record HoldsLeaves (store : Store) (pass : Pass) (leaves : List ℕ) (ts : List TakenCell)
    (index : Held (Box LeafIndex Global)) : Type 0 where
  pub numbers : numbers_of ts ≡ cells_of_leaves leaves
  pub latch : IsLatchOf store pass.latch
  pub out : pass.latch.me.1 ≡ (index.cell, slots.Out) ∷ slots_out (numbers_of ts)
  pub table : pass.account.table_id ≡ store.accounts.table.shared.table_id
  pub known : AreKnown store.accounts.config pass.account.me.0 ts
  pub only : (k : ℕ) (c : CellState) → HasCell pass.account.me.0 k c → is_taken k ts ≡ true
  pub apart : AreApart ts
  -- they have room for their rows from it
  pub buffers : pass.buffers + length ts ≡ MOST_UNPACKED
  pub index_held : HasIndexHeld store.accounts.config pass.account.me.0 index

-- the pass has the same cells and buffers, on the same table
pub record KeepsHand (old new : Pass) : Type 0 where
  pub cells : new.account.me.0.cells ≡ old.account.me.0.cells
  pub buffers : new.buffers ≡ old.buffers
  pub table : new.account.table_id ≡ old.account.table_id
