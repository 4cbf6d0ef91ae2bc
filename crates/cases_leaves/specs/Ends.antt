-- Where the last leaf of an index begins.
use Rattle.std.specs.Prelude.{◌≡◌, List, [], ◌∷◌, ◌++◌}
use Rattle.graph_model.specs.declared.row.Key.{Key}
use Rattle.leaf_index.specs.Index.{Entry}

-- the last of these leaves begins at the key
pub record EndsAt (low : Key) (entries : List Entry) : Type 0 where
  pub front : List Entry
  pub last : Entry
  pub is : entries ≡ front ++ last ∷ []
  pub same : last.low ≡ low
