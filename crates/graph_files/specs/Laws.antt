-- Laws of the load. Each is the contract of a function in `laws`.
use Rattle.std.specs.Prelude.{◌≡◌, ℕ, ◌+◌, ◌*◌, ◌≤◌, ◌<◌, List, length, Ok}
use Rattle.std.specs.List.{AllByRecursion}
use Rattle.graph_model.specs.declared.write.Kind.{Kind}
use Rattle.graph_model.specs.declared.write.Write.{Write}
use Rattle.graph_model.specs.Graph.{empty_graph}
use Rattle.graph_model.specs.Refused.{AllAllowed, IsWithinLimits}
use Rattle.graph_model.specs.History.{graph_at}
use Rattle.graph_model.specs.Loading.{journal_of}
use Rattle.graph_model.specs.Legal.{IsLegal}
use Rattle.graphalytics_io.specs.declared.edges.Edge.{Edge}
use Rattle.graphalytics_io.specs.Load.{load_of}
use Rattle.graph_files.specs.VertexFiles.{vertices_of}
use Rattle.graph_files.specs.EdgeFiles.{Rules, arcs_of, edges_of}
use Rattle.graph_files.specs.Load.{IsLoadable, graph_of}

-- no write of a load is refused on the graph that those before it leave
abbrev pub LoadIsAllowed : Type 0
LoadIsAllowed = (kind : Kind) (ids : List ℕ) (edges : List Edge) → IsLoadable kind ids edges
    → AllAllowed kind empty_graph (load_of ids edges)

-- each write of a load is within its limits
abbrev pub LoadIsWithinLimits : Type 0
LoadIsWithinLimits = (kind : Kind) (ids : List ℕ) (edges : List Edge) → IsLoadable kind ids edges
    → AllByRecursion IsWithinLimits (load_of ids edges)

-- a journal of the load alone is legal
abbrev pub LoadIsLegal : Type 0
LoadIsLegal = (kind : Kind) (ids : List ℕ) (edges : List Edge) → IsLoadable kind ids edges
    → IsLegal kind (journal_of (load_of ids edges))

-- the graph of that journal is what the writes make of the empty graph
abbrev pub LoadIsItsGraph : Type 0
LoadIsItsGraph = (kind : Kind) (load : List Write)
    → graph_at kind (journal_of load) (length (journal_of load)) ≡ graph_of kind load

-- what the two files stand for can be loaded
abbrev pub FilesAreLoadable : Type 0
FilesAreLoadable = (vertices edge_lines ids : List ℕ) (limit : ℕ) (rules : Rules) (edges : List Edge)
    → vertices_of limit vertices ≡ Ok ids → rules.ids ≡ ids → edges_of rules edge_lines ≡ Ok edges
    → IsLoadable rules.kind ids edges

-- the ids are at most the limit, and so are the ids with the arcs, unless there are no edges
abbrev pub FilesAreWithinLimits : Type 0
FilesAreWithinLimits = (vertices edge_lines ids : List ℕ) (limit : ℕ) (rules : Rules) (edges : List Edge)
    → vertices_of limit vertices ≡ Ok ids → rules.ids ≡ ids → edges_of rules edge_lines ≡ Ok edges
    → (length ids ≤ limit) × (0 < length edges → length ids + arcs_of rules.kind * length edges ≤ rules.limit)
