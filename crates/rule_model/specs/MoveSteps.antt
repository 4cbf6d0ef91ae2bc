-- Moves of rows between held cells, with the index in hand: spreads, splits and merges.
use Rattle.std.specs.Prelude.{◌≡◌, ◌⊎◌, ℕ, ◌*◌, ◌<◌, ◌≤◌, true, List, [], ◌∷◌, ◌++◌, length}
use Rattle.std.specs.declared.alloc.Global.{Global}
use Rattle.atomic_table.specs.Table.{Me}
use Rattle.graph_model.specs.declared.row.Key.{Key}
use Rattle.graph_model.specs.Rows.{is_below, end_key}
use Rattle.txn_manager.specs.declared.config.Config.{Config}
use Rattle.store_relation.specs.VersionSegment.Rows.{VersionedRows}
use Rattle.cells_model.specs.LeafArray.Segments.{lows_of, rows_of}
use Rattle.leaf_index.specs.declared.route.Retired.{Retired}
use Rattle.leaf_index.specs.Index.{Index, Entry, IsIndex}
use Rattle.cells_model.specs.LeafStoreDeclared.pair.TheConstants.{STAMPS_END}
use Rattle.cells_model.specs.LeafStore.Merging.{KeepsVersions}
use Rattle.cells_model.proofs.LeafStore.MoveLemmas.{Respreads}
use Rattle.seat_views.specs.Keeping.{revised}
use Rattle.cells_model.specs.Cells.{CellState}
use Rattle.cells_model.specs.Indexed.{is_live, leaf_cells, store_of, IsIndexed}
use Rattle.cells_model.specs.InPlace.{segment_of}
use Rattle.cells_model.specs.Moved.{IsRoutedTo, KeepsOtherLeaves, MergesInOne, SplitsInTwo, with_entry}
use Rattle.cells_model.specs.Noted.{IsAmong}
use Rattle.rule_model.specs.Places.{Layout}
use Rattle.rule_model.specs.Sight.{IndexState, Sight, Agrees, HasIndex, no_news, with_news}
use Rattle.rule_model.specs.RowSteps.{AreHeld}
use Rattle.rule_model.specs.Steps.{AllowsLoad, Nothing}

-- The index is sound against the new cells and each key has its versions; a leaf that was live is
-- so still, or is retired with this stamp; and those that were retired are.
pub record IsMove (heap : Global) (index index' : Index) (stamp : ℕ)
    (cell cell' : ℕ → VersionedRows) : Type 0 where
  pub indexed : IsIndexed heap index' cell'
  pub keeps : KeepsVersions (store_of heap index cell) (store_of heap index' cell')
  pub live : (l : ℕ) → is_live index l ≡ true → (is_live index' l ≡ true)
      ⊎ ((t : Retired) × IsAmong t index'.retired × (t.leaf ≡ l) × (t.stamp ≡ stamp))
  pub retired : (t : Retired) → IsAmong t index.retired → IsAmong t index'.retired

-- ---- the three moves are moves

abbrev pub SpreadIsMove : Type 0
SpreadIsMove =
    (heap : Global) (index : Index) (stamp : ℕ) (cell cell' : ℕ → VersionedRows)
    (front : List Entry) (e : Entry)
    (back : List Entry) → IsIndexed heap index cell → index.entries ≡ front ++ e ∷ back
    → e.leaf < index.leaves
    → KeepsOtherLeaves cell cell' e.leaf e.leaf
    → Respreads (leaf_cells cell e.leaf) (leaf_cells cell' e.leaf)
    → IsIndex (with_entry index front
    (record e { cuts = lows_of (leaf_cells cell' e.leaf) }) back)
    → IsMove heap index (with_entry index front
    (record e { cuts = lows_of (leaf_cells cell' e.leaf) }) back) stamp
    cell cell'

abbrev pub SplitIsMove : Type 0
SplitIsMove =
    (heap : Global) (index new : Index) (stamp : ℕ) (cell cell' : ℕ → VersionedRows) (key : Key)
    (leaf segment other : ℕ) → IsIndexed heap index cell
    → IsRoutedTo key index.entries leaf segment
    → is_below key end_key ≡ true → SplitsInTwo index new cell cell' leaf other
    → 207 ≤ length (rows_of (leaf_cells cell leaf)) → leaf < index.leaves → IsIndex new
    → IsMove heap index new stamp cell cell'

-- the right one of two leaves that become one is retired with the stamp
abbrev pub MergeIsMove : Type 0
MergeIsMove =
    (heap : Global) (index new : Index) (stamp : ℕ) (cell cell' : ℕ → VersionedRows)
    → IsIndexed heap index cell
    → (m : MergesInOne index new cell cell' stamp) → stamp < STAMPS_END
    → m.left.leaf < index.leaves
    → m.right.leaf < index.leaves → IsIndex new → IsMove heap index new stamp cell cell'

-- ---- the step

-- by the clock that the step loads, `now` is the index then: a merge retires with that number
pub record CanMove (z : Config) (heap : Global) (v : Sight) (y : IndexState) (now : ℕ → Index)
    (news : List (ℕ × CellState)) : Type 0 where
  pub index : HasIndex v y
  pub held : AreHeld z v news
  -- whatever all other cells are
  pub moves : (n : ℕ) → n ≤ z.passes * z.txns_per_pass → (cell : ℕ → CellState) → Agrees v cell
      → IsIndexed heap y.index (segment_of cell)
      → IsMove heap y.index (now n) n (segment_of cell) (segment_of (revised cell news))

module _ (z : Config) (at : Layout) (heap : Global) (slots id : ℕ)
    (me : Me (Unit {0}) Sight) where
  -- MOVE: a load of the clock
  abbrev pub RowsAreMoved : Type 0
  RowsAreMoved = (y : IndexState) (now : ℕ → Index) (news : List (ℕ × CellState))
      → CanMove z heap me.0 y now news
      → AllowsLoad z at heap slots id me at.clock
      (λ n. with_news me.0 (record no_news {
        cells = news;
        indexes = (0, record y { index = now n }) ∷ [];
      })
      me.0.reads) Nothing
