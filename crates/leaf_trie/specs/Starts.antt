-- Leaves in the order of their least keys.
use Rattle.std.specs.Prelude.{ℕ, ◌≡◌, ◌≢◌, ◌<◌, ◌⊎◌, List, [], ◌∷◌, ◌++◌, Option, Some, None, option_map, option_to_list}
use Rattle.std.specs.List.{AllByRecursion}
use Rattle.graph_model.specs.declared.row.Key.{Key}
use Rattle.leaf_trie.specs.declared.start.LeafStart.{LeafStart}
use Rattle.leaf_trie.specs.declared.start.Candidates.{Candidates}
use Rattle.leaf_trie.specs.Path.{number, head}

abbrev pub or_else : Option ℕ → Option ℕ → Option ℕ
or_else None b = b
or_else (Some a) b = Some a

abbrev pub last_leaf : List LeafStart → Option ℕ
last_leaf [] = None
last_leaf (s ∷ ss) = or_else (last_leaf ss) (Some s.leaf)

-- all of them begin below the key
abbrev pub AreBelow : Key → List LeafStart → Type 0
AreBelow key starts = AllByRecursion (λ s. number s.low < number key) starts

-- all of them begin above it
abbrev pub AreAbove : Key → List LeafStart → Type 0
AreAbove key starts = AllByRecursion (λ s. number key < number s.low) starts

-- the least keys share with the key all bytes above a level
abbrev pub ShareHead : ℕ → Key → List LeafStart → Type 0
ShareHead level key starts = AllByRecursion (λ s. head level s.low ≡ head level key) starts

-- none of them begins at the key
abbrev pub Lacks : Key → List LeafStart → Type 0
Lacks key starts = AllByRecursion (λ s. number s.low ≢ number key) starts

-- one of them begins at the key
abbrev pub IsThere : Key → List LeafStart → Type 0
IsThere key [] = ⊥
IsThere key (s ∷ ss) = (number s.low ≡ number key) ⊎ IsThere key ss

-- of those that don't begin below the key, at most one doesn't begin above it for certain; the last one below, or an
-- earlier one, stands before it
pub record AreCandidates (key : Key) (earlier : Option ℕ) (starts : List LeafStart) (found : Candidates) : Type 0 where
  pub front : List LeafStart
  pub middle : Option LeafStart
  pub back : List LeafStart
  pub is : starts ≡ front ++ (option_to_list middle ++ back)
  pub below : AreBelow key front
  pub above : AreAbove key back
  pub at : found.at ≡ option_map (λ s. s.leaf) middle
  pub before : found.before ≡ or_else (last_leaf front) earlier

-- the leaf was put between those below its least key and those above
pub record Puts (start : LeafStart) (old new : List LeafStart) : Type 0 where
  pub front : List LeafStart
  pub back : List LeafStart
  pub was : old ≡ front ++ back
  pub is : new ≡ front ++ start ∷ back
  pub below : AreBelow start.low front
  pub above : AreAbove start.low back

-- a leaf that begins at the key was taken away
pub record Takes (key : Key) (old new : List LeafStart) : Type 0 where
  pub front : List LeafStart
  pub taken : LeafStart
  pub back : List LeafStart
  pub was : old ≡ front ++ taken ∷ back
  pub is : new ≡ front ++ back
  pub same : number taken.low ≡ number key
