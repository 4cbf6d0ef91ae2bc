-- What the calls do to the list of leaves.
use Rattle.std.specs.Prelude.{ℕ, ◌≡◌, ◌≢◌, ◌+◌, ◌^◌, ◌<◌, true, List, [], ◌∷◌, ◌++◌, Option, Some, None, option_map, option_to_list}
use Rattle.std.specs.List.{AllByRecursion}
use Rattle.graph_model.specs.declared.row.Key.{Key}
use Rattle.graph_model.specs.Rows.{is_below}
use Rattle.leaf_trie.specs.declared.start.LeafStart.{LeafStart}
use Rattle.leaf_trie.specs.declared.start.Candidates.{Candidates}
use Rattle.leaf_trie.specs.Starts.{last_leaf}

-- two numbers of 64 bits
pub record IsKey (key : Key) : Type 0 where
  pub source : key.src < 2 ^ 64
  pub other : key.second < 2 ^ 64

abbrev pub AreKeys : List LeafStart → Type 0
AreKeys starts = AllByRecursion (λ s. IsKey s.low) starts

-- all of them begin below the key
abbrev pub BeginBelow : Key → List LeafStart → Type 0
BeginBelow key starts = AllByRecursion (λ s. is_below s.low key ≡ true) starts

-- all of them begin above it
abbrev pub BeginAbove : Key → List LeafStart → Type 0
BeginAbove key starts = AllByRecursion (λ s. is_below key s.low ≡ true) starts

-- none of them begins at it
abbrev pub NoneBegins : Key → List LeafStart → Type 0
NoneBegins key starts = AllByRecursion (λ s. s.low ≢ key) starts

-- one of them does
pub record OneBegins (key : Key) (starts : List LeafStart) : Type 0 where
  pub front : List LeafStart
  pub start : LeafStart
  pub back : List LeafStart
  pub is : starts ≡ front ++ start ∷ back
  pub low : start.low ≡ key

-- at most one leaf is a candidate at the key; all before it begin below the key, and the last of these is the other
-- candidate; all behind it begin above the key
pub record Finds (key : Key) (starts : List LeafStart) (found : Candidates) : Type 0 where
  pub front : List LeafStart
  pub middle : Option LeafStart
  pub back : List LeafStart
  pub is : starts ≡ front ++ (option_to_list middle ++ back)
  pub below : BeginBelow key front
  pub above : BeginAbove key back
  pub at : found.at ≡ option_map (λ s. s.leaf) middle
  pub before : found.before ≡ last_leaf front

-- the leaf stands between those that begin below it and those that begin above
pub record Inserts (start : LeafStart) (old new : List LeafStart) : Type 0 where
  pub front : List LeafStart
  pub back : List LeafStart
  pub was : old ≡ front ++ back
  pub is : new ≡ front ++ start ∷ back
  pub below : BeginBelow start.low front
  pub above : BeginAbove start.low back

-- the leaf that begins at the key is gone
pub record Removes (key : Key) (old new : List LeafStart) : Type 0 where
  pub front : List LeafStart
  pub start : LeafStart
  pub back : List LeafStart
  pub was : old ≡ front ++ start ∷ back
  pub is : new ≡ front ++ back
  pub low : start.low ≡ key
