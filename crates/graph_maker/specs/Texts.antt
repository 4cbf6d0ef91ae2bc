-- The two texts of a generated graph.
use Rattle.std.specs.Prelude.{ℕ, zero, suc, List, [], ◌∷◌, ◌++◌, decimal}
use Rattle.std.specs.List.{flat_map}
use Rattle.graph_maker.specs.declared.pair.VertexPair.{VertexPair}
use Rattle.graph_maker.specs.Draws.{pairs_of}

-- a line with one id
abbrev pub id_line : ℕ → List ℕ
id_line id = decimal id ++ 10 ∷ []

-- the ids 1 to so many in order, a line each
abbrev pub vertex_text : ℕ → List ℕ
vertex_text zero = []
vertex_text (suc n) = vertex_text n ++ id_line (suc n)

-- a line with the first end, a blank, and the second end
abbrev pub pair_line : VertexPair → List ℕ
pair_line pair = decimal pair.first ++ 32 ∷ decimal pair.second ++ 10 ∷ []

-- the pairs kept, in the order in which they were drawn
abbrev pub edge_text : ℕ → ℕ → ℕ → List ℕ
edge_text seed vertices wanted = flat_map pair_line (pairs_of seed vertices wanted)
