-- What the tables of the kernels are (LDBC Graphalytics): each vertex in rising order, with its value.
use Rattle.std.specs.Prelude.{◌≡◌, ℕ, List, map, slice_get, Some}
use Rattle.graph_model.specs.declared.write.Kind.{Kind}
use Rattle.graph_model.specs.declared.table.Value.{Value}
use Rattle.graph_model.specs.declared.table.Value.TheVariants.{Number, Infinity}
use Rattle.graph_model.specs.declared.table.Entry.{Entry}
use Rattle.graph_model.specs.Graph.{Graph, vertices_of}
use Rattle.graph_model.specs.Walks.{IsDistance, IsLeastWeight, IsUnreached}
use Rattle.graph_model.specs.Components.{IsComponent}
use Rattle.graph_model.specs.Labels.{label}

-- the vertices of the graph in rising order, each with a value that is right for it
pub record IsTable (g : Graph) (right : ℕ → Value → Type 0) (table : List Entry) : Type 0 where
  pub vertices : map (λ e. e.vertex) table ≡ vertices_of g
  pub values : (i : ℕ) (e : Entry) → slice_get table i ≡ Some e → right e.vertex e.value

-- what breadth-first search gives a vertex: always a number
abbrev pub IsBfsValue : Graph → ℕ → ℕ → Value → Type 0
IsBfsValue g root v (Number n) = IsDistance g root v n
IsBfsValue g root v Infinity = ⊥

-- what shortest paths give it: the least weight, or infinity where no walk leads
abbrev pub IsSsspValue : Graph → ℕ → ℕ → Value → Type 0
IsSsspValue g root v (Number weight) = IsLeastWeight g root v weight
IsSsspValue g root v Infinity = IsUnreached g root v

-- what components give it: always a number
abbrev pub IsWccValue : Graph → ℕ → Value → Type 0
IsWccValue g v (Number c) = IsComponent g v c
IsWccValue g v Infinity = ⊥

-- what community detection gives it: its label
abbrev pub IsCdlpValue : Kind → Graph → ℕ → ℕ → Value → Type 0
IsCdlpValue kind g rounds v value = value ≡ Number (label kind g rounds v)

-- breadth-first search from a root
abbrev pub IsBfs : Graph → ℕ → List Entry → Type 0
IsBfs g root table = IsTable g (IsBfsValue g root) table

-- shortest paths from a root
abbrev pub IsSssp : Graph → ℕ → List Entry → Type 0
IsSssp g root table = IsTable g (IsSsspValue g root) table

-- weakly connected components
abbrev pub IsWcc : Graph → List Entry → Type 0
IsWcc g table = IsTable g (IsWccValue g) table

-- community labels after so many rounds
abbrev pub IsCdlp : Kind → Graph → ℕ → List Entry → Type 0
IsCdlp kind g rounds table = IsTable g (IsCdlpValue kind g rounds) table
