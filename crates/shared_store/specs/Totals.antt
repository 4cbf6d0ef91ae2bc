-- What a closed store holds, by the rows of its cells.
use Rattle.std.specs.Prelude.{◌≡◌, ℕ, ◌*◌, ◌/◌, ◌==◌, ◌&&◌, Bool, not, is_some, List, length, slice_get, Some}
use Rattle.std.specs.FinMap as fin_map
use Rattle.std.specs.declared.alloc.Global.{Global}
use Rattle.graph_model.specs.declared.row.Key.{Key}
use Rattle.graph_model.specs.declared.row.Row.{Row}
use Rattle.graph_model.specs.declared.write.Kind.{Kind}
use Rattle.graph_model.specs.declared.write.Kind.TheVariants.{Directed, Undirected}
use Rattle.graph_model.specs.Graph.{Graph, vertices_of}
use Rattle.graph_model.specs.Rows.{is_below, value_at}
use Rattle.txn_manager.specs.declared.config.Totals.{Totals}
use Rattle.leaf_rows.specs.VersionSegment.Rows.{VersionedRows, IsSameSegment}
use Rattle.leaf_rows.specs.VersionSegment.Resting.{value_in_word, newest_value}
use Rattle.leaf_index.specs.Index.{Index}
use Rattle.leaf_rows.specs.LeafStore.Leaves.{versions_of}
use Rattle.pass_writes.specs.CellsModel.Indexed.{IsIndexed, store_of}

-- ---- what a graph has

-- an undirected edge is two arcs
abbrev pub edges_of : Kind → Graph → ℕ
edges_of Directed g = fin_map.len g.arcs
edges_of Undirected g = fin_map.len g.arcs / 2

-- these are a graph's, in a store that is settled
pub record AreTotals (kind : Kind) (g : Graph) (totals : Totals) : Type 0 where
  pub vertices : totals.vertices ≡ length (vertices_of g)
  pub edges : totals.edges ≡ edges_of kind g
  pub undo : totals.undo ≡ 0
  pub retired : totals.retired ≡ 0

-- ---- what cells hold

-- these cells under their index hold a graph: it has the newest value of each key
pub record HoldsGraph (cells : List VersionedRows) (index : Index) (g : Graph) : Type 0 where
  pub heap : Global
  pub cell : ℕ → VersionedRows
  pub count : length cells ≡ 8 * index.leaves
  pub known : (k : ℕ) (s : VersionedRows) → slice_get cells k ≡ Some s → IsSameSegment (cell k) s
  pub indexed : IsIndexed heap index cell
  pub newest : (q : Key) → newest_value (versions_of (store_of heap index cell) q) ≡ value_at g q

-- ---- rows with value words

-- the row stands from a key on, and has a value
abbrev pub is_seen : Key → Row → Bool
is_seen from row = not (is_below row.key from) && is_some (value_in_word row.weight)

-- and is a vertex's
abbrev pub is_seen_vertex : Key → Row → Bool
is_seen_vertex from row = is_seen from row && (row.key.second == 0)
