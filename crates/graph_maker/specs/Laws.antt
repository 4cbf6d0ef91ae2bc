-- What the pairs of a generated graph are.
use Rattle.std.specs.Prelude.{◌≢◌, ℕ, ◌≤◌, ◌<◌, List, length, All}
use Rattle.std.specs.List.{IsDistinct}
use Rattle.graph_maker.specs.declared.pair.VertexPair.{VertexPair}
use Rattle.graph_maker.specs.Draws.{have_same_ends, pairs_of}

-- an edge between two of the vertices 1 to so many
pub record IsEdge (vertices : ℕ) (pair : VertexPair) : Type 0 where
  pub first_from : 1 ≤ pair.first
  pub first_to : pair.first ≤ vertices
  pub second_from : 1 ≤ pair.second
  pub second_to : pair.second ≤ vertices
  pub apart : pair.first ≢ pair.second

-- each pair is an edge of the graph, no edge comes twice in whatever order of its ends, and there are at most as
-- many as are wanted
pub record AreEdgesOf (vertices wanted : ℕ) (pairs : List VertexPair) : Type 0 where
  pub edges : All (IsEdge vertices) pairs
  pub distinct : IsDistinct have_same_ends pairs
  pub few : length pairs ≤ wanted

abbrev pub PairsAreEdges : Type 0
PairsAreEdges = (seed vertices wanted : ℕ) → 0 < vertices → AreEdgesOf vertices wanted (pairs_of seed vertices wanted)
