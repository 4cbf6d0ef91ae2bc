-- Places for rows in the leaf in hand.
use Rattle.std.specs.Prelude.{◌≡◌, ℕ, ◌+◌, ◌*◌, ◌≤◌, true, List, length}
use Rattle.std.specs.declared.alloc.Global.{Global}
use Rattle.std.specs.declared.boxed.Box.{Box}
use Rattle.graph_model.specs.declared.limits.TheConstants.{SEGMENT_ROWS}
use Rattle.graph_model.specs.declared.row.Key.{Key}
use Rattle.txn_manager.specs.declared.config.Config.{Config}
use Rattle.pass_leaves.specs.VersionSegment.Rows.{VersionedRows}
use Rattle.latch_table.specs.declared.cells.Held.{Held}
use Rattle.leaf_index.specs.Index.{Index}
use Rattle.leaf_index.specs.declared.index.LeafIndex.{LeafIndex}
use Rattle.pass_leaves.specs.LeafArray.Segments.{HoldsKey, counts_of}
use Rattle.pass_leaves.specs.LeafStore.Leaves.{cell_in}
use Rattle.pass_leaves.specs.CellsModel.Indexed.{covers}
use Rattle.pass_leaves.specs.CellsModel.Moved.{IsRoutedTo}
use Rattle.pass_leaves.specs.RuleModel.Sight.{Sight}
use Rattle.room_choice.specs.Choice.{IsCrowded}
use Rattle.pass_leaves.specs.PassCellsDeclared.taken.TakenCell.{TakenCell}
use Rattle.pass_leaves.specs.PassCells.Holding.{AreKnown, numbers_of}
use Rattle.pass_leaves.specs.Hand.{HasIndexHeld, numbers_from}
use Rattle.pass_moves.specs.declared.room.CellRoom.{CellRoom}
use Rattle.pass_moves.specs.declared.room.CellRoom.TheVariants as rooms

-- one of these covers the key, and has so many free places
pub record HasRoom (key : Key) (need : ℕ) (ss : List VersionedRows) : Type 0 where
  pub covered : covers (cell_in ss key) key ≡ true
  pub places : length (cell_in ss key).rows + need ≤ SEGMENT_ROWS

-- the view knows all cells of the leaf as they are in hand, and the index
pub record KnowsLeaf (z : Config) (v : Sight) (leaf : ℕ) (ts : List TakenCell)
    (index : Held (Box LeafIndex Global)) : Type 0 where
  pub numbers : numbers_of ts ≡ numbers_from (8 * leaf) 8
  pub known : AreKnown z v ts
  pub index_held : HasIndexHeld z v index

-- The index leads the key to this one of them, which lacks the places; and no window round it has room for the rows
-- needed.
pub record IsCrowdedAt (key : Key) (need : ℕ) (index : Index) (leaf : ℕ) (ss : List VersionedRows) : Type 0 where
  pub segment : ℕ
  pub routed : IsRoutedTo key index.entries leaf segment
  pub holds : HoldsKey ss key segment
  pub crowded : IsCrowded (counts_of ss) segment need

abbrev pub IsRoom : Key → ℕ → Index → ℕ → List VersionedRows → CellRoom → Type 0
IsRoom key need index leaf ss rooms.Free = HasRoom key need ss
IsRoom key need index leaf ss rooms.Crowded = IsCrowdedAt key need index leaf ss
