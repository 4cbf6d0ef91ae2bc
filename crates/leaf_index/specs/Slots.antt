-- What stands by the numbers of leaves.
use Rattle.std.specs.Prelude.{ℕ, ◌≡◌, ◌≤◌, ◌==◌, Bool, true, cond, nat_lt, List, [], ◌∷◌, Option, Some, None, map, slice_get, length, count_by, replicate, set}
use Rattle.graph_model.specs.declared.limits.TheConstants.{MAX_LEAVES}
use Rattle.graph_model.specs.declared.row.Key.{Key}
use Rattle.graph_model.specs.Rows.{first_key, end_key, is_between}
use Rattle.leaf_trie.specs.declared.start.LeafStart.{LeafStart}
use Rattle.leaf_trie.specs.Leaves.{BeginAbove as StartAbove}
use Rattle.leaf_index.specs.declared.slot.IndexSlot.{IndexSlot}
use Rattle.std.specs.List.{AllByRecursion}
use Rattle.leaf_index.specs.declared.route.Retired.{Retired}
use Rattle.leaf_index.specs.declared.route.LeafRange.{LeafRange}
use Rattle.leaf_index.specs.Index.{Entry, AreCuts, IsLastBelow, IsLastFrom, NotAbove, first_or, times_among}

-- where the first of these leaves begins, or else the given end
abbrev pub begin_or : List LeafStart → Key → Key
begin_or [] high = high
begin_or (s ∷ ss) high = s.low

abbrev pub cuts_or_none : Option IndexSlot → List Key
cuts_or_none None = []
cuts_or_none (Some slot) = slot.cuts

-- all keys in the first segment
abbrev pub whole_slot : IndexSlot
whole_slot = record {
  cuts = first_key ∷ end_key ∷ end_key ∷ end_key ∷ end_key ∷ end_key ∷ end_key ∷ end_key ∷ [];
  high = end_key;
}

-- no key
abbrev pub empty_slot : IndexSlot
empty_slot = record {
  cuts = end_key ∷ end_key ∷ end_key ∷ end_key ∷ end_key ∷ end_key ∷ end_key ∷ end_key ∷ [];
  high = end_key;
}

-- the first leaf has all keys, and the others have none
abbrev pub first_slots : ℕ → List IndexSlot
first_slots leaves = set (replicate leaves empty_slot) 0 whole_slot

-- the range from the slot's first cut to its end has the key
abbrev pub holds_key : IndexSlot → Key → Bool
holds_key slot key = is_between (first_or slot.cuts end_key) slot.high key

-- a leaf's entry, from what stands by its number
abbrev pub entry_of : List IndexSlot → LeafStart → Entry
entry_of slots start = record { low = start.low; leaf = start.leaf; cuts = cuts_or_none (slice_get slots start.leaf) }

abbrev pub entries_of : List IndexSlot → List LeafStart → List Entry
entries_of slots starts = map (entry_of slots) starts

-- the leaf's slot has the end of its range, and cuts up to it
pub record HasSlot (slots : List IndexSlot) (start : LeafStart) (high : Key) : Type 0 where
  pub slot : IndexSlot
  pub there : slice_get slots start.leaf ≡ Some slot
  pub ends : slot.high ≡ high
  pub cuts : AreCuts start.low slot.cuts high

-- each leaf's range ends where the next one's begins, and that of the last one at the given end
abbrev pub HaveSlots : List IndexSlot → Key → List LeafStart → Type 0
HaveSlots slots high [] = Unit {0}
HaveSlots slots high (s ∷ ss) = HasSlot slots s (begin_or ss high) × HaveSlots slots high ss

-- each leaf begins below all later ones
abbrev pub AreRisingStarts : List LeafStart → Type 0
AreRisingStarts [] = Unit {0}
AreRisingStarts (s ∷ ss) = StartAbove s.low ss × AreRisingStarts ss

-- how often a leaf stands among the live, the free and the retired ones
abbrev pub times : ℕ → List LeafStart → List ℕ → List Retired → ℕ
times leaf starts free retired = times_among (λ s. s.leaf) starts free retired leaf

-- at most once, and never where it doesn't exist
abbrev pub StandOnce : ℕ → List LeafStart → List ℕ → List Retired → Type 0
StandOnce leaves starts free retired = (leaf : ℕ) → times leaf starts free retired ≤ cond (nat_lt leaf leaves) 1 0

-- the leaf has an entry
abbrev pub IsLive : ℕ → List LeafStart → Type 0
IsLive leaf starts = 1 ≤ count_by (λ s. s.leaf == leaf) starts

-- a slot that holds a key is that of a live leaf
abbrev pub OnlyLiveHold : List IndexSlot → List LeafStart → Type 0
OnlyLiveHold slots starts =
    (leaf : ℕ) (slot : IndexSlot) (key : Key) → slice_get slots leaf ≡ Some slot → holds_key slot key ≡ true
    → IsLive leaf starts

-- what the index keeps of its trie, its table and its lists
pub record IsKept (slots : List IndexSlot) (starts : List LeafStart) (free : List ℕ) (retired : List Retired) : Type 0 where
  pub first : begin_or starts end_key ≡ first_key
  pub rising : AreRisingStarts starts
  pub have : HaveSlots slots end_key starts
  pub once : StandOnce (length slots) starts free retired
  pub few : length slots ≤ MAX_LEAVES

-- the last leaf that begins below the key
pub record BeginsBefore (key : Key) (starts : List LeafStart) (leaf : ℕ) : Type 0 where
  pub start : LeafStart
  pub same : start.leaf ≡ leaf
  pub last : IsLastBelow (λ s. s.low) key starts start

-- it, or none does
abbrev pub IsBeforeStart : Key → List LeafStart → Option ℕ → Type 0
IsBeforeStart key starts None = AllByRecursion (λ s. NotAbove key s.low) starts
IsBeforeStart key starts (Some leaf) = BeginsBefore key starts leaf

-- the last leaf that does not begin above the key
pub record IsFloorStart (key : Key) (starts : List LeafStart) (leaf : ℕ) : Type 0 where
  pub start : LeafStart
  pub same : start.leaf ≡ leaf
  pub last : IsLastFrom (λ s. s.low) key starts start

-- the range from the first cut of the leaf's slot to its end
pub record IsRange (slots : List IndexSlot) (leaf : ℕ) (range : LeafRange) : Type 0 where
  pub slot : IndexSlot
  pub there : slice_get slots leaf ≡ Some slot
  pub same : range.leaf ≡ leaf
  pub low : slice_get slot.cuts 0 ≡ Some range.low
  pub high : range.high ≡ slot.high
