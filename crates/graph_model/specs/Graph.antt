-- Graphs, and what a write makes of one.
use Rattle.std.specs.Prelude.{◌≡◌, ℕ, ◌≤◌, Bool, false, ◌==◌, ◌||◌, List, [], ◌∷◌, Option, Some, is_some, IsTrue}
use Rattle.std.specs.List.{list_any}
use Rattle.std.specs.Ordering.{nat_cmp, ordering_then}
use Rattle.std.specs.declared.cmp.Ordering.{Ordering}
use Rattle.std.specs.FinMap as map
use Rattle.std.specs.FinMap.{FinMap}
use Rattle.graph_model.specs.declared.limits.TheConstants.{MAX_ID, MAX_WEIGHT}
use Rattle.graph_model.specs.declared.write.Kind.{Kind}
use Rattle.graph_model.specs.declared.write.Kind.TheVariants.{Directed, Undirected}
use Rattle.graph_model.specs.declared.write.Write.{Write}
use Rattle.graph_model.specs.declared.write.Write.TheVariants.{AddVertex, DropVertex, AddEdge, SetEdge, DropEdge}

-- arcs in the order of their sources, and then of their targets
abbrev pub arc_cmp : ℕ × ℕ → ℕ × ℕ → Ordering
arc_cmp a b = ordering_then (nat_cmp a.0 b.0) (nat_cmp a.1 b.1)

-- a finite set of vertices, kept as a finite map to nothing, and a finite map from arcs to weights
pub record Graph : Type 0 where
  pub vertices : FinMap nat_cmp (Unit {0})
  pub arcs : FinMap arc_cmp ℕ

-- no vertex and no arc
abbrev pub empty_graph : Graph
empty_graph = record { vertices = map.empty; arcs = map.empty }

-- v is a vertex
abbrev pub has_vertex : Graph → ℕ → Bool
has_vertex g v = map.contains_key g.vertices v

-- the vertices in rising order
abbrev pub vertices_of : Graph → List ℕ
vertices_of g = map.keys g.vertices

-- the weight of the arc from u to v, if it is there
abbrev pub weight_of : Graph → ℕ → ℕ → Option ℕ
weight_of g u v = map.get g.arcs (u, v)

-- an arc leads from u to v
abbrev pub has_arc : Graph → ℕ → ℕ → Bool
has_arc g u v = is_some (weight_of g u v)

-- an arc has v as one of its ends
abbrev pub has_edges : Graph → ℕ → Bool
has_edges g v = list_any (λ arc. (arc.0 == v) || (arc.1 == v)) (map.keys g.arcs)

-- the arc from u to v has this weight now
abbrev pub with_arc : Graph → ℕ → ℕ → ℕ → Graph
with_arc g u v weight = record g { arcs = map.insert g.arcs (u, v) weight }

-- no arc leads from u to v now
abbrev pub without_arc : Graph → ℕ → ℕ → Graph
without_arc g u v = record g { arcs = map.remove g.arcs (u, v) }

-- an edge is one arc where it has a direction, and two where it has none
abbrev pub with_edge : Kind → Graph → ℕ → ℕ → ℕ → Graph
with_edge Directed g u v weight = with_arc g u v weight
with_edge Undirected g u v weight = with_arc (with_arc g u v weight) v u weight

-- and it goes as it came
abbrev pub without_edge : Kind → Graph → ℕ → ℕ → Graph
without_edge Directed g u v = without_arc g u v
without_edge Undirected g u v = without_arc (without_arc g u v) v u

-- the graph after a write
abbrev pub apply : Kind → Graph → Write → Graph
apply kind g (AddVertex v) = record g { vertices = map.insert g.vertices v tt }
apply kind g (DropVertex v) = record g { vertices = map.remove g.vertices v }
apply kind g (AddEdge u v weight) = with_edge kind g u v weight
apply kind g (SetEdge u v weight) = with_edge kind g u v weight
apply kind g (DropEdge u v) = without_edge kind g u v

-- the graph after a list of writes, the first of them first
abbrev pub apply_all : Kind → Graph → List Write → Graph
apply_all kind g [] = g
apply_all kind g (w ∷ ws) = apply_all kind (apply kind g w) ws

-- both ends of each arc are vertices
abbrev pub HasBothEnds : Graph → Type 0
HasBothEnds g = (u v : ℕ) → IsTrue (has_arc g u v) → IsTrue (has_vertex g u) × IsTrue (has_vertex g v)

-- each arc goes the other way as well, with the same weight
abbrev pub IsSymmetric : Graph → Type 0
IsSymmetric g = (u v : ℕ) → weight_of g u v ≡ weight_of g v u

-- no arc leads from a vertex to itself
abbrev pub HasNoLoops : Graph → Type 0
HasNoLoops g = (v : ℕ) → has_arc g v v ≡ false

-- ids and weights are within their limits
pub record IsBounded (g : Graph) : Type 0 where
  pub ids : (v : ℕ) → IsTrue (has_vertex g v) → v ≤ MAX_ID
  pub weights : (u v weight : ℕ) → weight_of g u v ≡ Some weight → weight ≤ MAX_WEIGHT
