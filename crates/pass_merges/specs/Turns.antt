-- Turns of merging.
use Rattle.std.specs.Prelude.{◌≡◌, ℕ, Bool, true, false, List}
use Rattle.density_tree.specs.declared.window.Window.{Window}
use Rattle.pass_moves.specs.VersionSegment.Rows.{VersionedRows}
use Rattle.pass_moves.specs.LeafArray.Leaves.{SpreadsWindow}
use Rattle.pass_moves.specs.LeafArray.Segments.{counts_of}
use Rattle.leaf_index.specs.Index.{Index}
use Rattle.pass_moves.specs.LeafStore.Merging.{IsLeftmostWindow}
use Rattle.pass_merges.specs.Merging.{MergesInHand}
use Rattle.pass_merges.specs.declared.pair.LeafPair.{LeafPair}
use Rattle.pass_merges.specs.declared.turn.LeavesMerged.{LeavesMerged}
use Rattle.pass_merges.specs.declared.turn.MergeTurn.{MergeTurn}
use Rattle.pass_merges.specs.declared.turn.MergeTurn.TheVariants.{Spread, Merged, Nothing}
use Rattle.pass_merges.specs.declared.turn.WindowSpread.{WindowSpread}

abbrev pub leaf_of : WindowSpread → ℕ
leaf_of spread = spread.leaf

abbrev pub pair_of : LeavesMerged → LeafPair
pair_of merged = merged.pair

-- ---- what is in hand

-- these are a leaf's contents after its first sparse window was spread
pub record WasSpread (window : Window) (new : List VersionedRows) : Type 0 where
  pub old : List VersionedRows
  pub leftmost : IsLeftmostWindow (counts_of old) window
  pub spreads : SpreadsWindow window old new

-- these are two leaves' contents, and the index, after they have become one
pub record WasMerged (pair : LeafPair) (new : List VersionedRows) (index : Index) : Type 0 where
  pub old : List VersionedRows
  pub before : Index
  pub merges : MergesInHand pair old new before index

-- ---- what a turn answers

abbrev pub changes : MergeTurn → Bool
changes (Spread spread) = true
changes (Merged merged) = true
changes Nothing = false

-- two leaves have become one, if anything was done
abbrev pub IsPairTurn : LeafPair → MergeTurn → Type 0
IsPairTurn pair (Spread spread) = ⊥
IsPairTurn pair (Merged merged) = pair_of merged ≡ pair
IsPairTurn pair Nothing = Unit {0}

-- what was done was done with this leaf
abbrev pub IsTurnOf : ℕ → MergeTurn → Type 0
IsTurnOf leaf (Spread spread) = leaf_of spread ≡ leaf
IsTurnOf leaf (Merged merged) = (pair_of merged).left ≡ leaf
IsTurnOf leaf Nothing = Unit {0}
