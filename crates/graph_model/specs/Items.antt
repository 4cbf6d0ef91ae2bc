-- What a write writes, and when two writes clash: snapshot isolation lets one item have one writer
-- (Berenson et al. 1995).
use Rattle.std.specs.Prelude.{ℕ, Bool, false, ◌==◌, ◌&&◌, ◌||◌, cond, nat_lt}
use Rattle.graph_model.specs.declared.write.Kind.{Kind}
use Rattle.graph_model.specs.declared.write.Kind.TheVariants.{Directed, Undirected}
use Rattle.graph_model.specs.declared.write.Write.{Write}
use Rattle.graph_model.specs.declared.write.Write.TheVariants.{AddVertex, DropVertex, AddEdge, SetEdge, DropEdge}

-- a vertex, or an edge by its ends
pub data Item : Type 0 where
  Vertex : ℕ → Item
  Edge : ℕ → ℕ → Item

-- an edge by its ends; where it has no direction, the lesser end comes first
abbrev pub edge : Kind → ℕ → ℕ → Item
edge Directed u v = Edge u v
edge Undirected u v = cond (nat_lt v u) (Edge v u) (Edge u v)

-- what a write writes
abbrev pub item : Kind → Write → Item
item kind (AddVertex v) = Vertex v
item kind (DropVertex v) = Vertex v
item kind (AddEdge u v weight) = edge kind u v
item kind (SetEdge u v weight) = edge kind u v
item kind (DropEdge u v) = edge kind u v

-- the same vertex, or the same edge
abbrev pub same_item : Item → Item → Bool
same_item (Vertex v) (Vertex w) = v == w
same_item (Vertex v) (Edge a b) = false
same_item (Edge u v) (Vertex w) = false
same_item (Edge u v) (Edge a b) = (u == a) && (v == b)

-- the first removes a vertex at which the second adds an edge
abbrev pub cuts_off : Write → Write → Bool
cuts_off (DropVertex v) (AddEdge a b weight) = (v == a) || (v == b)
cuts_off (DropVertex v) (AddVertex w) = false
cuts_off (DropVertex v) (DropVertex w) = false
cuts_off (DropVertex v) (SetEdge a b weight) = false
cuts_off (DropVertex v) (DropEdge a b) = false
cuts_off (AddVertex v) y = false
cuts_off (AddEdge u v weight) y = false
cuts_off (SetEdge u v weight) y = false
cuts_off (DropEdge u v) y = false

-- both write one item, or one removes an end of an edge that the other adds
abbrev pub clash : Kind → Write → Write → Bool
clash kind x y = same_item (item kind x) (item kind y) || cuts_off x y || cuts_off y x
