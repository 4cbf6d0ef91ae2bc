-- What the two graph files stand for: the writes of one transaction.
use Rattle.std.specs.Prelude.{ℕ, List, ◌++◌, map}
use Rattle.graph_model.specs.declared.write.Write.{Write}
use Rattle.graph_model.specs.declared.write.Write.TheVariants.{AddVertex, AddEdge}
use Rattle.graphalytics_io.specs.declared.edges.Edge.{Edge}

-- the write that adds an edge of the file
abbrev pub added_edge : Edge → Write
added_edge edge = AddEdge edge.u edge.v edge.weight

-- the load writes the vertices in file order, then the edges in file order
abbrev pub load_of : List ℕ → List Edge → List Write
load_of ids edges = map AddVertex ids ++ map added_edge edges
