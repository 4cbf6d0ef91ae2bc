-- Leaves with few rows: windows that are to be spread, and neighbours that are to become one leaf.
use Rattle.std.specs.Prelude.{◌≡◌, ◌⊎◌, ℕ, ◌+◌, ◌<◌, ◌≤◌, true, false, Bool, List, [], ◌∷◌, ◌++◌, length, None, slice_index, Result, Ok, Err}
use Rattle.std.specs.List.{AllByRecursion}
use Rattle.leaf_store.specs.declared.pair.TheConstants.{MERGE_ROWS}
use Rattle.leaf_index.specs.declared.route.Retired.{Retired}
use Rattle.leaf_index.specs.Calls.{freed_of, kept_of}
use Rattle.leaf_table.specs.VersionSegment.Rows.{VersionedRows}
use Rattle.density_tree.specs.declared.window.Window.{Window}
use Rattle.density_tree.specs.declared.window.TheConstants.{LOWER_LIMITS}
use Rattle.density_tree.specs.Windows.{IsDense, IsRound, IsSmallest, IsSmallestWindow}
use Rattle.leaf_table.specs.LeafArray.Leaves.{Merges, SpreadsWindow}
use Rattle.leaf_table.specs.LeafArray.Segments.{AreSame, rows_of, counts_of}
use Rattle.graph_model.specs.declared.row.Key.{Key}
use Rattle.leaf_store.specs.Leaves.{Leaves, Part, versions_of, weight}
use Rattle.leaf_store.specs.Changes.{KeepsCells, MovesRows}

-- ---- windows

-- a segment has too few rows, and the window is the smallest round it that has enough
pub record IsSparseWindow (counts : List ℕ) (window : Window) : Type 0 where
  pub segment : ℕ
  pub within : segment < 8
  pub few : slice_index counts segment < slice_index LOWER_LIMITS 0
  pub smallest : IsSmallest (IsDense counts) segment window
  pub round : IsRound segment window

-- the segment has enough rows, or no window round it has
abbrev pub HasNoWindow : List ℕ → ℕ → Type 0
HasNoWindow counts segment = slice_index counts segment < slice_index LOWER_LIMITS 0
    → IsSmallestWindow (IsDense counts) segment None

-- no segment of the leaf has a sparse window
abbrev pub IsLevel : List VersionedRows → Type 0
IsLevel ss = (segment : ℕ) → segment < 8 → HasNoWindow (counts_of ss) segment

-- so are all leaves
abbrev pub AreLevel : List Part → Type 0
AreLevel parts = AllByRecursion (λ p. IsLevel p.segments) parts

-- it is the sparse window of the first segment that has one
pub record IsLeftmostWindow (counts : List ℕ) (window : Window) : Type 0 where
  pub sparse : IsSparseWindow counts window
  pub before : (segment : ℕ) → segment < sparse.segment → HasNoWindow counts segment

-- It is the first sparse window in key order: no leaf before this one has any, and no segment before its own.
pub record IsFirstWindow (front : List Part) (part : Part) (window : Window) : Type 0 where
  pub level : AreLevel front
  pub leftmost : IsLeftmostWindow (counts_of part.segments) window

-- ---- neighbours

abbrev pub rows_in_part : Part → ℕ
rows_in_part p = length (rows_of p.segments)

-- the leaf has too many rows to become one with the first of those behind it
abbrev pub IsApart : Part → List Part → Type 0
IsApart p [] = Unit {0}
IsApart p (q ∷ qs) = MERGE_ROWS < rows_in_part p + rows_in_part q

-- each leaf has too many rows to become one with the next
abbrev pub AreApart : List Part → Type 0
AreApart [] = Unit {0}
AreApart (p ∷ ps) = IsApart p ps × AreApart ps

-- They are the first two neighbours in key order that have few rows together: no two before them have.
pub record IsFirstPair (front : List Part) (left right : Part) : Type 0 where
  pub apart : AreApart (front ++ left ∷ [])
  pub few : rows_in_part left + rows_in_part right ≤ MERGE_ROWS

-- ---- what calls do

-- no window is to be spread, and no two neighbours are to become one leaf
pub record IsCompact (s : Leaves) : Type 0 where
  pub level : AreLevel s.parts
  pub apart : AreApart s.parts

-- no leaf more is retired, or one with the stamp
abbrev pub RetiresOne : List Retired → List Retired → ℕ → Type 0
RetiresOne old new stamp = (new ≡ old) ⊎ ((leaf : ℕ) × (new ≡ old ++ record { leaf = leaf; stamp = stamp } ∷ []))

-- rows have moved, and a leaf that has none left may have been retired with the stamp
pub record Compacts (old new : Leaves) (stamp : ℕ) : Type 0 where
  pub moves : MovesRows old new
  pub free : new.free ≡ old.free
  pub retired : RetiresOne old.retired new.retired stamp

-- the first sparse window in key order is spread, and all else is as it was
pub record SpreadsOne (old new : Leaves) : Type 0 where
  pub front : List Part
  pub part : Part
  pub back : List Part
  pub segments : List VersionedRows
  pub window : Window
  pub was : old.parts ≡ front ++ part ∷ back
  pub now : new ≡ record old { parts = front ++ record part { segments = segments } ∷ back }
  pub first : IsFirstWindow front part window
  pub spreads : SpreadsWindow window part.segments segments

-- No leaf has a sparse window. Of the first two neighbours in key order with few rows the left one has all rows now,
-- and the right one is retired with the stamp. All else is as it was.
pub record MergesTwo (old new : Leaves) (stamp : ℕ) : Type 0 where
  pub front : List Part
  pub left : Part
  pub right : Part
  pub back : List Part
  pub segments : List VersionedRows
  pub rest : List VersionedRows
  pub was : old.parts ≡ front ++ left ∷ right ∷ back
  pub now : new ≡ record old {
    parts = front ++ record left { segments = segments } ∷ back;
    retired = old.retired ++ record { leaf = right.leaf; stamp = stamp } ∷ [];
  }
  pub level : AreLevel old.parts
  pub first : IsFirstPair front left right
  pub merges : Merges left.segments right.segments segments rest

-- the leaves are as they were, but for the room for records in their segments
abbrev pub AreSameParts : List Part → List Part → Type 0
AreSameParts [] [] = Unit {0}
AreSameParts (p ∷ ps) (q ∷ qs) = (q.leaf ≡ p.leaf) × AreSame p.segments q.segments × AreSameParts ps qs
AreSameParts [] (q ∷ qs) = ⊥
AreSameParts (p ∷ ps) [] = ⊥

-- no row, cell or index entry has changed
pub record KeepsParts (old new : Leaves) : Type 0 where
  pub cells : KeepsCells old new
  pub parts : AreSameParts old.parts new.parts

-- The first window is spread, or where there is none the first two neighbours become one leaf; or there are neither; or
-- memory is wanted.
abbrev pub IsMergeStep : {E : Type 0} → Leaves → Leaves → ℕ → Result Bool E → Type 0
IsMergeStep old new stamp (Ok true) = SpreadsOne old new ⊎ MergesTwo old new stamp
IsMergeStep old new stamp (Ok false) = IsCompact old × (new ≡ old)
IsMergeStep old new stamp (Err refused) = KeepsParts old new

-- each key keeps its versions, and no more leaves are used up
pub record KeepsVersions (old new : Leaves) : Type 0 where
  pub versions : (q : Key) → versions_of new q ≡ versions_of old q
  pub limit : new.limit ≡ old.limit
  pub weight : weight new ≤ weight old

-- the retired leaves with a stamp below the given one are free
pub record FreesRetired (until : ℕ) (old new : Leaves) : Type 0 where
  pub parts : new.parts ≡ old.parts
  pub limit : new.limit ≡ old.limit
  pub keeps : KeepsVersions old new
  pub free : new.free ≡ old.free ++ freed_of until old.retired
  pub retired : new.retired ≡ kept_of until old.retired
