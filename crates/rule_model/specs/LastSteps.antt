-- What one knows of the rows of cells who has all of a store at its end.
use Rattle.std.specs.Prelude.{◌≡◌, ℕ, ◌<◌, false}
use Rattle.std.specs.declared.alloc.Global.{Global}
use mathlib.Core.Option.{some}
use lib.ListN.{get_elem?}
use Rattle.atomic_table.specs.Table.{State}
use Rattle.graph_model.specs.declared.row.Key.{Key}
use Rattle.txn_manager.specs.declared.config.Config.{Config}
use Rattle.store_model.specs.Stamped.{StampedVersions}
use Rattle.leaf_index.specs.Index.{Index}
use Rattle.cells_model.specs.LeafStore.Leaves.{versions_of}
use Rattle.store_relation.specs.Shared.{JournalState}
use Rattle.cells_model.specs.Cells.{CellState}
use Rattle.cells_model.specs.InPlace.{segment_of}
use Rattle.cells_model.specs.Indexed.{IsIndexed, store_of}
use Rattle.cells_model.specs.Words.{Spells}
use Rattle.rule_model.specs.EndSteps.{HasAll, IsLast}
use Rattle.rule_model.specs.Places.{Layout}
use Rattle.rule_model.specs.Rule.{IsStoreRule}
use Rattle.rule_model.specs.Sight.{HasCell, HasIndex, IndexState, Sight, cells_of}

-- the cells of an index have these rows
pub record HaveRows (z : Config) (heap : Global) (index : Index) (cell : ℕ → CellState) (rows : Key → StampedVersions)
    : Type 0 where
  pub indexed : IsIndexed heap index (segment_of cell)
  pub leaves : index.leaves ≡ z.leaves
  pub rows_are : (q : Key) → versions_of (store_of heap index (segment_of cell)) q ≡ rows q

-- The view shows a closed store. Its index is that of its cells, which have the rows of that store, and the block of a
-- packed cell spells its contents.
pub record IsLastStore (z : Config) (v : Sight) (j : JournalState) : Type 0 where
  pub last : IsLast z v j
  pub heap : Global
  pub cell : ℕ → CellState
  pub cells : (k : ℕ) (c : CellState) → HasCell v k c → cell k ≡ c
  pub spells : (k : ℕ) → k < cells_of z → (cell k).unpacked ≡ false → Spells (cell k).block (cell k).segment
  pub index : (y : IndexState) → HasIndex v y → HaveRows z heap y.index cell last.rows

-- CLOSE
abbrev pub StoreCloses : Type 0
StoreCloses =
    (z : Config) (at : Layout) (heap : Global) (s : State (Unit {0}) Sight)
    → IsStoreRule z at heap s
    → (id : ℕ) (v : Sight) → get_elem? s.views id ≡ some v → (j : JournalState) → HasAll z v j
    → IsLastStore z v j
