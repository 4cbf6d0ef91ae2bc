-- What the calls need of an index and do to it.
use Rattle.std.specs.Prelude.{ℕ, ◌≡◌, ◌-◌, true, not, List, [], ◌∷◌, ◌++◌, Option, Some, None, map, take, drop, nat_lt}
use Rattle.std.specs.List.{AllByRecursion, filter, range_with_len}
use Rattle.graph_model.specs.declared.row.Key.{Key}
use Rattle.graph_model.specs.Rows.{is_below, first_key, end_key}
use Rattle.leaf_index.specs.declared.route.Retired.{Retired}
use Rattle.leaf_index.specs.declared.route.LeafRange.{LeafRange}
use Rattle.leaf_index.specs.Idle.{Idle}
use Rattle.leaf_index.specs.Index.{Entry, Index, NotAbove, BeginAbove, AreSorted, AreCuts, IsTaken, IsFloor, IsLastBelow, end_of}

-- leaf 0 has the whole key range, all of it in its first segment, and the others are free
abbrev pub new_index : ℕ → Index
new_index leaves = record {
  leaves = leaves;
  entries = record {
    low = first_key;
    leaf = 0;
    cuts = first_key ∷ end_key ∷ end_key ∷ end_key ∷ end_key ∷ end_key ∷ end_key ∷ end_key ∷ [];
  } ∷ [];
  free = range_with_len 1 (leaves - 1);
  retired = [];
}

-- an entry may be put behind the one whose range holds its key: none of that one's cuts is above the key, and its
-- own go up to the end of that range
pub record CanAdd (low : Key) (cuts : List Key) (entries : List Entry) : Type 0 where
  pub front : List Entry
  pub before : Entry
  pub back : List Entry
  pub is : entries ≡ front ++ before ∷ back
  pub begins : is_below before.low low ≡ true
  pub above : BeginAbove low back
  pub older : AreSorted before.cuts low
  pub newer : AreCuts low cuts (end_of back)

-- it stands behind that one
abbrev pub with_leaf : (low : Key) (leaf : ℕ) (cuts : List Key) (entries : List Entry)
    → CanAdd low cuts entries → List Entry
with_leaf low leaf cuts entries can =
    (can.front ++ can.before ∷ []) ++ record { low = low; leaf = leaf; cuts = cuts } ∷ can.back

-- an entry other than the first begins at the key
pub record CanDrop (low : Key) (entries : List Entry) : Type 0 where
  pub front : List Entry
  pub before : Entry
  pub dropped : Entry
  pub back : List Entry
  pub is : entries ≡ front ++ before ∷ dropped ∷ back
  pub same : dropped.low ≡ low

-- it is gone
abbrev pub without_leaf : (low : Key) (entries : List Entry) → CanDrop low entries → List Entry
without_leaf low entries can = (can.front ++ can.before ∷ []) ++ can.back

-- the entry that begins at the key may have these cuts
pub record CanCut (low : Key) (cuts : List Key) (entries : List Entry) : Type 0 where
  pub front : List Entry
  pub entry : Entry
  pub back : List Entry
  pub is : entries ≡ front ++ entry ∷ back
  pub same : entry.low ≡ low
  pub fit : AreCuts low cuts (end_of back)

-- it has them
abbrev pub with_cuts : (low : Key) (cuts : List Key) (entries : List Entry) → CanCut low cuts entries → List Entry
with_cuts low cuts entries can = can.front ++ record can.entry { cuts = cuts } ∷ can.back

-- the last free leaf is taken, or there is none
abbrev pub TakesFree : Index → Index → Option ℕ → Type 0
TakesFree old new None = (old.free ≡ []) × (new ≡ old)
TakesFree old new (Some leaf) = (old ≡ record new { free = new.free ++ leaf ∷ [] }) × IsTaken new leaf

-- of retired leaves, those with a stamp below the given one, and the others
abbrev pub freed_of : ℕ → List Retired → List ℕ
freed_of until retired = map (λ r. r.leaf) (filter (λ r. nat_lt r.stamp until) retired)

abbrev pub kept_of : ℕ → List Retired → List Retired
kept_of until retired = filter (λ r. not (nat_lt r.stamp until)) retired

-- of the first retired leaves, those with a stamp below the given one are free, in their order
abbrev pub freed : ℕ → ℕ → Index → Index
freed until upto index = record index {
  free = index.free ++ freed_of until (take upto index.retired);
  retired = kept_of until (take upto index.retired) ++ drop upto index.retired;
}

-- the same of the lists alone
abbrev pub freed_idle : ℕ → ℕ → Idle → Idle
freed_idle until upto idle = record idle {
  free = idle.free ++ freed_of until (take upto idle.retired);
  retired = kept_of until (take upto idle.retired) ++ drop upto idle.retired;
}

-- the range of an entry that stands before these
pub record IsRangeOf (entry : Entry) (back : List Entry) (range : LeafRange) : Type 0 where
  pub leaf : range.leaf ≡ entry.leaf
  pub low : range.low ≡ entry.low
  pub high : range.high ≡ end_of back

-- the leaf whose range holds the key, with its range
pub record IsLeafRange (key : Key) (entries : List Entry) (range : LeafRange) : Type 0 where
  pub entry : Entry
  pub floor : IsFloor key entries entry
  pub range_is : IsRangeOf entry floor.back range

-- the last leaf that begins below the key, with its range
pub record BeginsBelow (key : Key) (entries : List Entry) (range : LeafRange) : Type 0 where
  pub entry : Entry
  pub last : IsLastBelow (λ e. e.low) key entries entry
  pub range_is : IsRangeOf entry last.back range

-- or none begins below it
abbrev pub IsLeafBefore : Key → List Entry → Option LeafRange → Type 0
IsLeafBefore key entries None = AllByRecursion (λ e. NotAbove key e.low) entries
IsLeafBefore key entries (Some range) = BeginsBelow key entries range
