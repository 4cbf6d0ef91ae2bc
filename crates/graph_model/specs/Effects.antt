-- What a write does at a key: which rows it writes, what it leaves there, and which rows it touches.
use Rattle.std.specs.Prelude.{ℕ, Bool, false, ◌==◌, ◌&&◌, ◌||◌, cond, List, [], ◌∷◌, Option, Some, None}
use Rattle.std.specs.List.{list_any}
use Rattle.graph_model.specs.declared.write.Kind.{Kind}
use Rattle.graph_model.specs.declared.write.Kind.TheVariants.{Directed, Undirected}
use Rattle.graph_model.specs.declared.write.Write.{Write}
use Rattle.graph_model.specs.declared.write.Write.TheVariants.{AddVertex, DropVertex, AddEdge, SetEdge, DropEdge}
use Rattle.graph_model.specs.declared.row.Key.{Key}
use Rattle.graph_model.specs.Rows.{vertex_key, arc_key}

-- one row
abbrev pub same_key : Key → Key → Bool
same_key a b = (a.src == b.src) && (a.second == b.second)

-- the keys of an edge's rows
abbrev pub arc_keys : Kind → ℕ → ℕ → List Key
arc_keys Directed u v = arc_key u v ∷ []
arc_keys Undirected u v = arc_key v u ∷ arc_key u v ∷ []

-- the keys of the rows that a write writes
abbrev pub keys_of : Kind → Write → List Key
keys_of kind (AddVertex v) = vertex_key v ∷ []
keys_of kind (DropVertex v) = vertex_key v ∷ []
keys_of kind (AddEdge u v weight) = arc_keys kind u v
keys_of kind (SetEdge u v weight) = arc_keys kind u v
keys_of kind (DropEdge u v) = arc_keys kind u v

-- what it leaves at each of them
abbrev pub value_left : Write → Option ℕ
value_left (AddVertex v) = Some 0
value_left (DropVertex v) = None
value_left (AddEdge u v weight) = Some weight
value_left (SetEdge u v weight) = Some weight
value_left (DropEdge u v) = None

-- the write writes the row of this key
abbrev pub writes_at : Kind → Write → Key → Bool
writes_at kind w q = list_any (same_key q) (keys_of kind w)

-- the write adds an edge at the vertex of this key: it needs that row, and doesn't write it
abbrev pub touches_at : Write → Key → Bool
touches_at (AddVertex v) q = false
touches_at (DropVertex v) q = false
touches_at (AddEdge u v weight) q = same_key q (vertex_key u) || same_key q (vertex_key v)
touches_at (SetEdge u v weight) q = false
touches_at (DropEdge u v) q = false

-- one of the writes writes the row
abbrev pub any_writes : Kind → List Write → Key → Bool
any_writes kind ws q = list_any (λ w. writes_at kind w q) ws

-- one of the writes touches the row
abbrev pub any_touches : List Write → Key → Bool
any_touches ws q = list_any (λ w. touches_at w q) ws

-- what a list of writes leaves at a key that had this value
abbrev pub value_after : Kind → List Write → Key → Option ℕ → Option ℕ
value_after kind [] q value = value
value_after kind (w ∷ ws) q value = value_after kind ws q (cond (writes_at kind w q) (value_left w) value)
