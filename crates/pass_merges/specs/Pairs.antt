-- Two leaves, one behind the other, by their entries in the index.
use Rattle.std.specs.Prelude.{◌≡◌, ◌∷◌, ◌++◌, List}
use Rattle.graph_model.specs.declared.row.Key.{Key}
use Rattle.leaf_index.specs.Index.{AreCuts, Entry, end_of}
use Rattle.pass_merges.specs.declared.pair.LeafPair.{LeafPair}

-- they stand next to each other
pub record StandTogether (pair : LeafPair) (entries : List Entry) : Type 0 where
  pub front : List Entry
  pub left : Entry
  pub right : Entry
  pub back : List Entry
  pub is : entries ≡ front ++ left ∷ right ∷ back
  pub left_is : pair.left ≡ left.leaf
  pub right_is : pair.right ≡ right.leaf

-- the right one begins at the key, and the left one may have these cuts up to the end of both
pub record MayJoin (pair : LeafPair) (cut : Key) (cuts : List Key) (entries : List Entry) : Type 0 where
  pub together : StandTogether pair entries
  pub cut_is : cut ≡ together.right.low
  pub fit : AreCuts together.left.low cuts (end_of together.back)

-- the left one stands alone with these cuts where both stood
abbrev pub in_one : {pair : LeafPair} {entries : List Entry} → StandTogether pair entries → List Key → List Entry
in_one together cuts = together.front ++ record together.left { cuts = cuts } ∷ together.back
