-- The rows that writes change, as a list of keys.
use Rattle.std.specs.Prelude.{Bool, not, List, [], ◌∷◌, ◌++◌}
use Rattle.std.specs.List.{list_any, filter}
use Rattle.graph_model.specs.declared.write.Kind.{Kind}
use Rattle.graph_model.specs.declared.write.Write.{Write}
use Rattle.graph_model.specs.declared.write.Write.TheVariants.{AddVertex, DropVertex, AddEdge, SetEdge, DropEdge}
use Rattle.graph_model.specs.declared.row.Key.{Key}
use Rattle.graph_model.specs.Effects.{same_key, keys_of}
use Rattle.graph_model.specs.Rows.{vertex_key}

abbrev pub has_key : List Key → Key → Bool
has_key ks k = list_any (same_key k) ks

-- all of them but one
abbrev pub keys_but : Key → List Key → List Key
keys_but k ks = filter (λ q. not (same_key q k)) ks

-- the rows that a write touches: those of the vertices at which it adds an edge
abbrev pub ends_of : Write → List Key
ends_of (AddVertex v) = []
ends_of (DropVertex v) = []
ends_of (AddEdge u v weight) = vertex_key u ∷ vertex_key v ∷ []
ends_of (SetEdge u v weight) = []
ends_of (DropEdge u v) = []

-- the rows that writes write or touch
abbrev pub changed_keys : Kind → List Write → List Key
changed_keys kind [] = []
changed_keys kind (w ∷ ws) = (keys_of kind w ++ ends_of w) ++ changed_keys kind ws
