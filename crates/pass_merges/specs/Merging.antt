-- Two leaves in hand that become one.
use Rattle.std.specs.Prelude.{◌≡◌, ℕ, ◌+◌, ◌≤◌, List, [], ◌∷◌, ◌++◌, length, take, drop}
use Rattle.std.specs.List.{AllByRecursion}
use Rattle.graph_model.specs.declared.row.Key.{Key}
use Rattle.pass_moves.specs.VersionSegment.Rows.{VersionedRows, IsSegment}
use Rattle.pass_moves.specs.LeafArray.Leaves.{IsLeaf, Merges}
use Rattle.pass_moves.specs.LeafArray.Segments.{high_or, low_or, lows_of, rows_of}
use Rattle.pass_moves.specs.LeafStoreDeclared.pair.TheConstants.{MERGE_ROWS}
use Rattle.leaf_index.specs.Index.{Index}
use Rattle.pass_moves.specs.PassCellsDeclared.taken.TakenCell.{TakenCell}
use Rattle.pass_moves.specs.Moving.{AreMarked, HavePut, values_of}
use Rattle.pass_merges.specs.declared.pair.LeafPair.{LeafPair}
use Rattle.pass_merges.specs.Pairs.{StandTogether, in_one}

-- the leaf is retired with a stamp
abbrev pub retired_at : ℕ → ℕ → Index → Index
retired_at leaf stamp index = record index { retired = index.retired ++ record { leaf = leaf; stamp = stamp } ∷ [] }

-- ---- cells

-- the contents of two leaves, of which the second begins where the first ends, with few rows
pub record MayMerge (ss ts : List VersionedRows) : Type 0 where
  pub left_leaf : IsLeaf ss
  pub right_leaf : IsLeaf ts
  pub left_sound : AllByRecursion IsSegment ss
  pub right_sound : AllByRecursion IsSegment ts
  pub meet : (other : Key) → high_or ss other ≡ low_or ts other
  pub few : length (rows_of ss) + length (rows_of ts) ≤ MERGE_ROWS

-- All rows of two neighbours are in the cells of the left one, divided evenly, and the right one is empty at its end;
-- all are marked as changed. These are the least keys of the left one's cells then.
pub record MergesCells (cuts : List Key) (first second first' second' : List TakenCell) : Type 0 where
  pub left : List VersionedRows
  pub right : List VersionedRows
  pub merges : Merges (values_of first) (values_of second) left right
  pub sound : AllByRecursion IsSegment left
  pub cuts_are : cuts ≡ lows_of left
  pub left_between : List TakenCell
  pub right_between : List TakenCell
  pub left_put : HavePut first left left_between
  pub right_put : HavePut second right right_between
  pub left_marked : AreMarked left_between first' 0 8
  pub right_marked : AreMarked right_between second' 0 8

-- ---- what is in hand

-- Of two neighbours the left one has all rows and the range of both, divided evenly, and the right one is empty; the
-- index has one entry for both, and the right leaf is retired with a clock that was loaded meanwhile.
pub record MergesInHand (pair : LeafPair) (old new : List VersionedRows) (before behind : Index) : Type 0 where
  pub stamp : ℕ
  pub together : StandTogether pair before.entries
  pub merges : Merges (take 8 old) (drop 8 old) (take 8 new) (drop 8 new)
  pub behind_is : behind
      ≡ retired_at pair.right stamp (record before { entries = in_one together (lows_of (take 8 new)) })
