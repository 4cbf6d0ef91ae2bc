-- The rows of a graph, in the order of their keys.
use Rattle.std.specs.Prelude.{◌≡◌, ℕ, ◌+◌, ◌-◌, ◌≤◌, ◌==◌, ◌&&◌, ◌++◌, Bool, not, cond, List, map, Option, Some, None, IsTrue}
use Rattle.std.specs.List.{filter}
use Rattle.std.specs.Ordering.{nat_cmp, ordering_then, is_lt}
use Rattle.std.specs.declared.cmp.Ordering.{Ordering}
use Rattle.std.specs.FinMap as fin_map
use Rattle.std.specs.FinMap.{FinMap}
use Rattle.graph_model.specs.declared.row.Key.{Key}
use Rattle.graph_model.specs.declared.row.Row.{Row}
use Rattle.graph_model.specs.declared.limits.TheConstants.{MAX_ID}
use Rattle.graph_model.specs.Graph.{Graph, has_vertex, vertices_of, weight_of, HasBothEnds}

-- keys in the order of their sources, and then of their second numbers
abbrev pub key_cmp : Key → Key → Ordering
key_cmp a b = ordering_then (nat_cmp a.src b.src) (nat_cmp a.second b.second)

-- a's row stands before b's
abbrev pub is_below : Key → Key → Bool
is_below a b = is_lt (key_cmp a b)

-- the key of a vertex's row
abbrev pub vertex_key : ℕ → Key
vertex_key v = record { src = v; second = 0 }

-- the key of an arc's row
abbrev pub arc_key : ℕ → ℕ → Key
arc_key u v = record { src = u; second = v + 1 }

-- at or below the key of each row
abbrev pub first_key : Key
first_key = vertex_key 0

-- above the key of each row
abbrev pub end_key : Key
end_key = vertex_key 9223372036854775807

-- a vertex's row has weight 0
abbrev pub vertex_entry : ℕ → Key × ℕ
vertex_entry v = (vertex_key v, 0)

-- an arc's row has its weight
abbrev pub arc_entry : (ℕ × ℕ) × ℕ → Key × ℕ
arc_entry a = (arc_key a.0.0 a.0.1, a.1)

-- each vertex with weight 0, and each arc with its weight, by their keys
abbrev pub row_map : Graph → FinMap key_cmp ℕ
row_map g = fin_map.from_entries (map vertex_entry (vertices_of g) ++ map arc_entry (fin_map.entries g.arcs))

-- a key with its weight
abbrev pub row_of : Key × ℕ → Row
row_of e = record { key = e.0; weight = e.1 }

-- from the one key on and below the other
abbrev pub is_between : Key → Key → Key → Bool
is_between from until key = not (is_below key from) && is_below key until

-- the rows of a key range, in rising order of key
abbrev pub rows : Graph → Key → Key → List Row
rows g from until = map row_of (filter (λ e. is_between from until e.0) (fin_map.entries (row_map g)))

-- the rows of all keys
abbrev pub all_rows : Graph → List Row
all_rows g = rows g first_key end_key

-- what the graph has at a key: nothing, a vertex with weight 0, or an arc's weight
abbrev pub value_at : Graph → Key → Option ℕ
value_at g key =
    cond (key.second == 0) (cond (has_vertex g key.src) (Some 0) None) (weight_of g key.src (key.second - 1))

-- these are all rows of the graph, whose arcs lead between its vertices and whose ids are within their limit
pub record AreRowsOf (list : List Row) (g : Graph) : Type 0 where
  pub listed : list ≡ all_rows g
  pub ends : HasBothEnds g
  pub within : (v : ℕ) → IsTrue (has_vertex g v) → v ≤ MAX_ID
