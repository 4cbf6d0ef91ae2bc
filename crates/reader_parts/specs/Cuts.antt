-- Keys at which the rows of a graph are cut into parts.
use Rattle.std.specs.Prelude.{◌≡◌, false, List, [], ◌∷◌}
use Rattle.graph_model.specs.declared.row.Key.{Key}
use Rattle.graph_model.specs.Rows.{is_below}

-- the parts end at these keys, one behind the other: the first begins at this key, and the last one ends at that one
abbrev pub AreEnds : Key → Key → List Key → Type 0
AreEnds from last [] = from ≡ last
AreEnds from last (key ∷ keys) = (is_below key from ≡ false) × AreEnds key last keys
