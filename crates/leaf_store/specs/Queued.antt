-- Leaves that wait to be looked at. Only the crate itself speaks of it.
use Rattle.std.specs.Prelude.{◌≡◌, ◌≢◌, ◌⊎◌, ℕ, ◌+◌, ◌<◌, ◌≤◌, true, List, [], ◌∷◌, ◌++◌, Option, Some, length, map, sum, slice_index, slice_set}
use Rattle.std.specs.List.{AllByRecursion}
use Rattle.std.specs.declared.boxed.Box.{Box}
use Rattle.std.specs.declared.alloc.Global.{Global}
use Rattle.graph_model.specs.Rows.{is_below, end_key}
use Rattle.density_tree.specs.declared.window.TheConstants.{LOWER_LIMITS}
use Rattle.leaf_table.specs.VersionSegment.Rows.{VersionedRows}
use Rattle.leaf_table.specs.LeafArrayDeclared.leaf.Leaf.{Leaf}
use Rattle.leaf_table.specs.LeafArray.Segments.{counts_of, low_or}
use Rattle.leaf_index.specs.declared.route.LeafRange.{LeafRange}
use Rattle.leaf_index.specs.Calls.{IsRangeOf}
use Rattle.leaf_index.specs.Index.{Entry, Index}
use Rattle.leaf_queue.specs.declared.waiting.WaitStage.{WaitStage}
use Rattle.leaf_queue.specs.declared.waiting.WaitStage.TheVariants.{Windows, Neighbours}
use Rattle.leaf_queue.specs.declared.waiting.Waiting.{Waiting}
use Rattle.leaf_queue.specs.Queue.{Waits}
use Rattle.leaf_store.specs.declared.pair.TheConstants.{MERGE_ROWS}
use Rattle.leaf_store.specs.declared.pair.Pair.{Pair}
use Rattle.leaf_store.specs.declared.work.QueuedWork.{QueuedWork}
use Rattle.leaf_store.specs.declared.work.QueuedWork.TheVariants.{Spread, Merge}
use Rattle.leaf_store.specs.Leaves.{Part}
use Rattle.leaf_store.specs.Merging.{IsApart, IsLevel, rows_in_part}
use Rattle.leaf_store.specs.Pairs.{IsFirstFoundPair, IsFoundPair, IsFoundWindow}
use Rattle.leaf_store.specs.Table.{IsKept, part_of, segments_at}

-- how a leaf with this number and these segments waits
abbrev pub waiting_with : WaitStage → ℕ → List VersionedRows → Waiting
waiting_with stage leaf ss = record { stage = stage; low = low_or ss end_key; leaf = leaf }

abbrev pub waiting_of : WaitStage → Part → Waiting
waiting_of stage p = waiting_with stage p.leaf p.segments

-- the leaf waits that its windows are looked at
abbrev pub AwaitsWindows : List (Option Waiting) → Part → Type 0
AwaitsWindows places p = Waits places (waiting_of Windows p)

-- it waits for that, or that its neighbours are
abbrev pub IsQueued : List (Option Waiting) → Part → Type 0
IsQueued places p = (stage : WaitStage) × Waits places (waiting_of stage p)

-- a leaf has no sparse window, or waits that its windows are looked at
abbrev pub IsLevelOrQueued : List (Option Waiting) → Part → Type 0
IsLevelOrQueued places p = IsLevel p.segments ⊎ AwaitsWindows places p

-- the leaf has too many rows to become one with the first of those behind it, or one of both waits
abbrev pub IsApartOrQueued : List (Option Waiting) → Part → List Part → Type 0
IsApartOrQueued places p [] = Unit {0}
IsApartOrQueued places p (q ∷ qs) =
    (MERGE_ROWS < rows_in_part p + rows_in_part q) ⊎ (IsQueued places p ⊎ IsQueued places q)

-- where there is a window to spread, or a pair to become one leaf, a leaf of it waits
abbrev pub AreQueued : List (Option Waiting) → List Part → Type 0
AreQueued places [] = Unit {0}
AreQueued places (p ∷ ps) = IsLevelOrQueued places p × IsApartOrQueued places p ps × AreQueued places ps

-- what a store keeps of its index, its table and the queue of its leaves
pub record IsTended (index : Index) (table : List (Option (Box Leaf Global))) (places : List (Option Waiting))
    : Type 0 where
  pub kept : IsKept index table
  pub count : length places ≡ index.leaves
  pub queued : AreQueued places (map (part_of table) index.entries)

-- ---- leaves that come into the queue

-- the leaf with this number and these segments waits that its windows are looked at
abbrev pub with_leaf : List (Option Waiting) → ℕ → List VersionedRows → List (Option Waiting)
with_leaf places leaf ss = slice_set places leaf (Some (waiting_with Windows leaf ss))

-- no segment has too few rows, and the leaf has too many to become one with any other
pub record IsThick (counts : List ℕ) : Type 0 where
  pub each : (segment : ℕ) → segment < 8 → slice_index LOWER_LIMITS 0 ≤ slice_index counts segment
  pub many : MERGE_ROWS < sum counts

-- a leaf of which a segment has changed waits, unless the segment has as many rows as before or the leaf is thick
abbrev pub QueuesChange : ℕ → ℕ → List VersionedRows → ℕ → List (Option Waiting) → List (Option Waiting) → Type 0
QueuesChange before rows ss leaf old new =
    ((rows ≡ before) × (new ≡ old)) ⊎ ((IsThick (counts_of ss) × (new ≡ old)) ⊎ (new ≡ with_leaf old leaf ss))

-- none of the leaves has this number
abbrev pub IsNotLive : List Entry → ℕ → Type 0
IsNotLive entries leaf = (front : List Entry) (entry : Entry) (back : List Entry)
    → entries ≡ front ++ entry ∷ back → entry.leaf ≢ leaf

-- the leaf with this number isn't live, or it is thick or waits
abbrev pub IsThickOrQueued : Index → List (Option (Box Leaf Global)) → List (Option Waiting) → ℕ → Type 0
IsThickOrQueued index table places leaf = IsNotLive index.entries leaf ⊎ (IsThick (counts_of (segments_at table leaf))
    ⊎ Waits places (waiting_with Windows leaf (segments_at table leaf)))

-- ---- what there is to do

-- the first window that is to be spread, or the first two neighbours that are to become one leaf
abbrev pub IsWork : Index → List (Option (Box Leaf Global)) → QueuedWork → Type 0
IsWork index table (Spread found) = IsFoundWindow index table found
IsWork index table (Merge pair) = IsFirstFoundPair index table pair

-- the last of the leaves before has too many rows to become one with the leaf
abbrev pub IsApartBefore : List Part → Part → Type 0
IsApartBefore [] p = Unit {0}
IsApartBefore (q ∷ []) p = MERGE_ROWS < rows_in_part q + rows_in_part p
IsApartBefore (q ∷ r ∷ qs) p = IsApartBefore (r ∷ qs) p

-- the leaf with this range has too many rows to become one with the leaf before
abbrev pub IsApartAhead : List Entry → List (Option (Box Leaf Global)) → LeafRange → Type 0
IsApartAhead entries table range = (front : List Entry) (entry : Entry) (back : List Entry)
    → entries ≡ front ++ entry ∷ back → IsRangeOf entry back range
    → IsApartBefore (map (part_of table) front) (part_of table entry)

-- none of the leaves waits so
abbrev pub IsNotLiveAs : List Entry → Waiting → Type 0
IsNotLiveAs entries waiting = (front : List Entry) (entry : Entry) (back : List Entry)
    → entries ≡ front ++ entry ∷ back → entry.leaf ≡ waiting.leaf → entry.low ≡ waiting.low → ⊥

-- Two neighbours have few rows together. The right one of them has this range, or the left one has, and is apart from
-- the one before.
pub record IsNextPair (index : Index) (table : List (Option (Box Leaf Global))) (range : LeafRange) (pair : Pair)
    : Type 0 where
  pub found : IsFoundPair index table pair
  pub left : (is_below found.left.low range.low ≡ true) ⊎ ((found.left.low ≡ range.low)
      × IsApartBefore (map (part_of table) found.front) (part_of table found.left))

-- there is nothing to do at this stage with the leaf that waits so, if it is live
abbrev pub IsDoneAt : WaitStage → List Part → Waiting → Type 0
IsDoneAt Windows parts waiting = AllByRecursion (λ p. waiting_of Windows p ≡ waiting → IsLevel p.segments) parts
IsDoneAt Neighbours parts waiting = (front : List Part) (p : Part) (back : List Part) → parts ≡ front ++ p ∷ back
    → waiting_of Neighbours p ≡ waiting → IsApartBefore front p × IsApart p back

abbrev pub IsDone : List Part → Waiting → Type 0
IsDone parts waiting = IsDoneAt waiting.stage parts waiting
