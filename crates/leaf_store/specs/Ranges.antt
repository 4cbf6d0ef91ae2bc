-- The range of a leaf that is given in two, to it and to another leaf. Only the crate itself speaks of it.
use Rattle.std.specs.Prelude.{◌≡◌, ◌≢◌, ℕ, ◌≤◌, length, true, List, [], ◌∷◌, ◌++◌, Option}
use Rattle.graph_model.specs.declared.row.Key.{Key}
use Rattle.graph_model.specs.Rows.{is_below, end_key}
use Rattle.leaf_table.specs.VersionSegment.Rows.{VersionedRows}
use Rattle.leaf_table.specs.LeafArray.Leaves.{Splits}
use Rattle.leaf_table.specs.LeafArray.Segments.{lows_of}
use Rattle.leaf_index.specs.Index.{Entry, Index, AreCuts, BeginAbove, end_of}
use Rattle.std.specs.List.{AllByRecursion}
use Rattle.std.specs.declared.boxed.Box.{Box}
use Rattle.std.specs.declared.alloc.Global.{Global}
use Rattle.leaf_table.specs.VersionSegment.Rows.{IsSegment}
use Rattle.leaf_table.specs.LeafArrayDeclared.leaf.Leaf.{Leaf}
use Rattle.leaf_table.specs.LeafArray.Segments.{AreSame}
use Rattle.txn_manager.specs.declared.config.RoomRefusal.{RoomRefusal}
use Rattle.txn_manager.specs.declared.config.RoomRefusal.TheVariants as refusals
use Rattle.density_tree.specs.declared.window.Window.{Window}
use Rattle.density_tree.specs.Windows.{IsRound}
use Rattle.leaf_table.specs.declared.place.Place.{Place}
use Rattle.leaf_store.specs.Leaves.{Leaves, Part, room_at}
use Rattle.leaf_store.specs.Table.{IsPlace, IsTied, segments_at}

-- the entry that begins at the low key has these cuts, and the other key is within its range
pub record CanHalve (low : Key) (cuts : List Key) (key : Key) (entries : List Entry) : Type 0 where
  pub front : List Entry
  pub entry : Entry
  pub back : List Entry
  pub is : entries ≡ front ++ entry ∷ back
  pub low_is : entry.low ≡ low
  pub cuts_are : entry.cuts ≡ cuts
  pub fit : AreCuts low cuts (end_of back)
  pub begins : is_below low key ≡ true
  pub ends : is_below key (end_of back) ≡ true
  pub above : BeginAbove key back

-- all cuts at one key
abbrev pub eight : Key → List Key
eight key = key ∷ key ∷ key ∷ key ∷ key ∷ key ∷ key ∷ key ∷ []

-- all but the first cut at the key
abbrev pub first_and : Key → Key → List Key
first_and low key = low ∷ key ∷ key ∷ key ∷ key ∷ key ∷ key ∷ key ∷ []

-- the two entries, of which the second begins at the key
abbrev pub in_two : List Entry → Entry → List Key → Key → ℕ → List Key → List Entry → List Entry
in_two front entry lefts key leaf rights back =
    front ++ record entry { cuts = lefts } ∷ record { low = key; leaf = leaf; cuts = rights } ∷ back

-- one entry stands where these two stood
pub record CanJoin (low : Key) (cuts : List Key) (key : Key) (entries : List Entry) : Type 0 where
  pub front : List Entry
  pub left : Entry
  pub right : Entry
  pub back : List Entry
  pub is : entries ≡ front ++ left ∷ right ∷ back
  pub low_is : left.low ≡ low
  pub key_is : right.low ≡ key
  pub fit : AreCuts low cuts (end_of back)

-- the segments are those of an entry that stands among others
pub record IsLive (entries : List Entry) (segments : List VersionedRows) : Type 0 where
  pub front : List Entry
  pub entry : Entry
  pub back : List Entry
  pub is : entries ≡ front ++ entry ∷ back
  pub tied : IsTied segments entry (end_of back)
  pub cuts : AreCuts entry.low entry.cuts (end_of back)
  pub above : (key : Key) → is_below key (end_of back) ≡ true → BeginAbove key back

-- the rows of a live leaf are divided between it and another one, and both have entries
pub record SplitsEntry (leaf : ℕ) (old new : List Entry) (ss left right : List VersionedRows) (live : IsLive old ss)
    : Type 0 where
  pub key : Key
  pub splits : Splits ss left right key
  pub entries : new ≡ in_two live.front live.entry (lows_of left) key leaf (lows_of right) live.back

-- both have their memory in the table, and all other leaves have theirs as before
pub record SplitsLeaf (old new : Index) (table table' : List (Option (Box Leaf Global))) (leaf other : ℕ) : Type 0 where
  pub live : IsLive old.entries (segments_at table leaf)
  pub number : live.entry.leaf ≡ leaf
  pub splits : SplitsEntry other old.entries new.entries
      (segments_at table leaf) (segments_at table' leaf) (segments_at table' other) live
  pub left_sound : AllByRecursion IsSegment (segments_at table' leaf)
  pub right_sound : AllByRecursion IsSegment (segments_at table' other)
  pub index_is : new ≡ record old { entries = new.entries }
  pub others : (n : ℕ) → n ≢ leaf → n ≢ other → segments_at table' n ≡ segments_at table n
  pub count : length table' ≡ length table

-- one leaf has become two with these numbers, and all others are as they were
pub record DividesLeaf (leaf other : ℕ) (old new : Leaves) : Type 0 where
  pub front : List Part
  pub part : Part
  pub left : Part
  pub right : Part
  pub back : List Part
  pub was : old.parts ≡ front ++ part ∷ back
  pub now : new.parts ≡ front ++ left ∷ right ∷ back
  pub left_number : left.leaf ≡ leaf
  pub right_number : right.leaf ≡ other

-- only the room for records of one leaf has changed
pub record KeepsLeaves (table table' : List (Option (Box Leaf Global))) (leaf : ℕ) : Type 0 where
  pub same : AreSame (segments_at table leaf) (segments_at table' leaf)
  pub others : (n : ℕ) → n ≢ leaf → segments_at table' n ≡ segments_at table n
  pub count : length table' ≡ length table

-- no leaf is free, and all is as it was; or memory is wanted
abbrev pub IsOutOfLeaves : RoomRefusal → Index → Index
    → List (Option (Box Leaf Global)) → List (Option (Box Leaf Global)) → Type 0
IsOutOfLeaves (refusals.Full leaves) old new table table' =
    (leaves ≡ old.leaves) × (old.free ≡ []) × (new ≡ old) × (table' ≡ table)
IsOutOfLeaves refusals.NoMemory old new table table' = Unit {0}

-- a key whose cell lies in the window of the leaf has room for two rows
abbrev pub HasRoomWithin : Window → ℕ → List Entry → Leaves → Type 0
HasRoomWithin window leaf entries s = (key : Key) (place : Place) → place.leaf ≡ leaf → IsPlace key entries place
    → is_below key end_key ≡ true → IsRound place.segment window → 2 ≤ room_at s key
