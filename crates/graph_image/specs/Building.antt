-- Rows on their way into an image.
use Rattle.std.specs.Prelude.{◌≡◌, ℕ, ◌++◌, [], ◌∷◌, ◌-◌, ◌<◌, ◌≤◌, ◌^◌, List, length, map, slice_index, slice_get, Some, IsTrue}
use Rattle.graph_model.specs.declared.limits.TheConstants.{MAX_WEIGHT}
use Rattle.graph_model.specs.declared.row.Row.{Row}
use Rattle.graph_model.specs.Rows.{vertex_key, is_below}
use Rattle.graph_image.specs.declared.placed_row.PlacedRow.{PlacedRow}
use Rattle.graph_image.specs.declared.edge.PlacedArc.{PlacedArc}
use Rattle.graph_image.specs.declared.edge.Side.{Side}
use Rattle.graph_image.specs.Images.{IdsRise, Listed}
use Rattle.graph_image.specs.Edges.{IsGrouped}

-- keys rise, weights are within their limit, and there are fewer rows than 2^32
pub record AreStorable (rows : List Row) : Type 0 where
  pub rise : (i j : ℕ) (a b : Row) → i < j → slice_get rows i ≡ Some a → slice_get rows j ≡ Some b
      → IsTrue (is_below a.key b.key)
  pub weights : (i : ℕ) (r : Row) → slice_get rows i ≡ Some r → r.weight ≤ MAX_WEIGHT
  pub count : length rows < 2 ^ 32

-- v has a row of its own
pub record HasVertexRow (rows : List Row) (v : ℕ) : Type 0 where
  pub at : ℕ
  pub row : Row
  pub is : slice_get rows at ≡ Some row
  pub key : row.key ≡ vertex_key v

-- the ends of each arc are vertices
pub record AreEnded (rows : List Row) : Type 0 where
  pub sources : (i : ℕ) (r : Row) → slice_get rows i ≡ Some r → HasVertexRow rows r.key.src
  pub targets : (i : ℕ) (r : Row) → slice_get rows i ≡ Some r → 0 < r.key.second
      → HasVertexRow rows (r.key.second - 1)

-- ---- what a builder keeps

-- the row, whose source stands among the sources
abbrev pub shown : List ℕ → PlacedRow → Row
shown sources r = record {
  key = record { src = slice_index sources r.source; second = r.second };
  weight = r.weight;
}

-- The rows are storable, and the sources are just theirs.
pub record IsBuilt (sources : List ℕ) (rows : List PlacedRow) : Type 0 where
  pub storable : AreStorable (map (shown sources) rows)
  pub ids : IdsRise sources
  pub placed : (i : ℕ) (r : PlacedRow) → slice_get rows i ≡ Some r → r.source < length sources
  pub used : (p : ℕ) → p < length sources → (i : ℕ) × (r : PlacedRow) × (slice_get rows i ≡ Some r) × (r.source ≡ p)
  pub few : length sources ≤ length rows

-- the row stands behind the others, and its source among the sources
pub record Appends (sources : List ℕ) (rows : List PlacedRow) (row : Row)
    (sources_later : List ℕ) (rows_later : List PlacedRow) : Type 0 where
  pub built : IsBuilt sources_later rows_later
  pub appended : map (shown sources_later) rows_later ≡ map (shown sources) rows ++ row ∷ []

-- ---- the edges of rows

-- a target has a place
abbrev pub HavePlaces : List ℕ → List PlacedRow → Type 0
HavePlaces sources rows = (i : ℕ) (r : PlacedRow) → slice_get rows i ≡ Some r → 0 < r.second
    → (q : ℕ) × (slice_get sources q ≡ Some (r.second - 1))

-- the edge is that of an arc's row
pub record IsEdge (sources : List ℕ) (r : PlacedRow) (e : PlacedArc) : Type 0 where
  pub arc : 0 < r.second
  pub from : e.from ≡ r.source
  pub to : slice_get sources e.to ≡ Some (r.second - 1)
  pub weight : e.weight ≡ r.weight

-- these are the edges of the first n rows, in the order of the rows
pub record AreEdgesOf (sources : List ℕ) (rows : List PlacedRow) (n : ℕ) (edges : List PlacedArc) : Type 0 where
  pub sound : (k : ℕ) (e : PlacedArc) → slice_get edges k ≡ Some e
      → (i : ℕ) × (r : PlacedRow) × (i < n) × (slice_get rows i ≡ Some r) × IsEdge sources r e
  pub complete : (i : ℕ) (r : PlacedRow) → i < n → slice_get rows i ≡ Some r → 0 < r.second
      → (k : ℕ) × (e : PlacedArc) × (slice_get edges k ≡ Some e) × IsEdge sources r e
  pub froms : (k l : ℕ) (e f : PlacedArc) → k < l → slice_get edges k ≡ Some e → slice_get edges l ≡ Some f → e.from ≤ f.from
  pub tos : (k l : ℕ) (e f : PlacedArc) → k < l → slice_get edges k ≡ Some e → slice_get edges l ≡ Some f
      → e.from ≡ f.from → e.to < f.to
  pub count : length edges ≤ n

-- at each place stand the arcs of the rows that have it on this side, in the order of the rows
abbrev pub HaveArcsOf : Side → List ℕ → List PlacedRow → Listed → Type 0
HaveArcsOf side sources rows listed =
    (edges : List PlacedArc) × AreEdgesOf sources rows (length rows) edges × IsGrouped side (length sources) edges listed
