-- What ids and edges make of the empty graph, for both kinds of graph.
use Rattle.std.specs.Prelude.{◌≢◌, ℕ, ◌≤◌, min, max, List, All, AllPairs, Contains}
use Rattle.graph_model.specs.declared.limits.TheConstants.{MAX_ID, MAX_WEIGHT}
use Rattle.graph_model.specs.declared.write.Kind.{Kind}
use Rattle.graph_model.specs.declared.write.Kind.TheVariants.{Directed, Undirected}
use Rattle.graph_model.specs.declared.write.Write.{Write}
use Rattle.graph_model.specs.Graph.{Graph, empty_graph, apply_all}
use Rattle.graphalytics_io.specs.declared.edges.Edge.{Edge}

-- both ends are among the ids
abbrev pub HasKnownEnds : List ℕ → Edge → Type 0
HasKnownEnds ids edge = Contains ids edge.u × Contains ids edge.v

-- an edge's two ends, the lesser first where directions don't count
abbrev pub ends_by : Kind → Edge → ℕ × ℕ
ends_by Directed edge = (edge.u, edge.v)
ends_by Undirected edge = (min edge.u edge.v, max edge.u edge.v)

-- ids that differ, and edges between them that differ, all within their limits
pub record IsLoadable (kind : Kind) (ids : List ℕ) (edges : List Edge) : Type 0 where
  pub in_range : All (λ id. id ≤ MAX_ID) ids
  pub distinct : AllPairs (λ v w. v ≢ w) ids
  pub known : All (HasKnownEnds ids) edges
  pub no_loops : All (λ edge. edge.u ≢ edge.v) edges
  pub distinct_edges : AllPairs (λ a b. ends_by kind a ≢ ends_by kind b) edges
  pub weights : All (λ edge. edge.weight ≤ MAX_WEIGHT) edges

-- what a load's writes make of the empty graph
abbrev pub graph_of : Kind → List Write → Graph
graph_of kind load = apply_all kind empty_graph load
