-- Which writes a graph refuses, and why.
use Rattle.std.specs.Prelude.{◌≡◌, ℕ, ◌==◌, ◌≤◌, cond, List, [], ◌∷◌, Option, Some, None}
use Rattle.graph_model.specs.declared.limits.TheConstants.{MAX_ID, MAX_WEIGHT}
use Rattle.graph_model.specs.declared.write.Kind.{Kind}
use Rattle.graph_model.specs.declared.write.Write.{Write}
use Rattle.graph_model.specs.declared.write.Write.TheVariants.{AddVertex, DropVertex, AddEdge, SetEdge, DropEdge}
use Rattle.graph_model.specs.declared.refusal.Refusal.{Refusal}
use Rattle.graph_model.specs.declared.refusal.Refusal.TheVariants.{SelfLoop, NoVertex, VertexExists, EdgeExists, NoEdge, HasEdges}
use Rattle.graph_model.specs.Graph.{Graph, has_vertex, has_arc, has_edges, apply}

-- the ends of an edge are two vertices; then the last answer counts
abbrev pub unless_ends : Graph → ℕ → ℕ → Option Refusal → Option Refusal
unless_ends g u v then_answer =
    cond (u == v) (Some SelfLoop)
    (cond (has_vertex g u) (cond (has_vertex g v) then_answer (Some (NoVertex v))) (Some (NoVertex u)))

-- the first cause that holds, or none
abbrev pub refused : Graph → Write → Option Refusal
refused g (AddVertex v) = cond (has_vertex g v) (Some VertexExists) None
refused g (DropVertex v) =
    cond (has_vertex g v) (cond (has_edges g v) (Some HasEdges) None) (Some (NoVertex v))
refused g (AddEdge u v weight) = unless_ends g u v (cond (has_arc g u v) (Some EdgeExists) None)
refused g (SetEdge u v weight) = unless_ends g u v (cond (has_arc g u v) None (Some NoEdge))
refused g (DropEdge u v) = unless_ends g u v (cond (has_arc g u v) None (Some NoEdge))

-- none of the writes is refused on the graph that those before it leave
abbrev pub AllAllowed : Kind → Graph → List Write → Type 0
AllAllowed kind g [] = Unit {0}
AllAllowed kind g (w ∷ ws) = (refused g w ≡ None) × AllAllowed kind (apply kind g w) ws

-- ids and weights are within their limits
abbrev pub IsWithinLimits : Write → Type 0
IsWithinLimits (AddVertex v) = v ≤ MAX_ID
IsWithinLimits (DropVertex v) = v ≤ MAX_ID
IsWithinLimits (AddEdge u v weight) = (u ≤ MAX_ID) × (v ≤ MAX_ID) × (weight ≤ MAX_WEIGHT)
IsWithinLimits (SetEdge u v weight) = (u ≤ MAX_ID) × (v ≤ MAX_ID) × (weight ≤ MAX_WEIGHT)
IsWithinLimits (DropEdge u v) = (u ≤ MAX_ID) × (v ≤ MAX_ID)
