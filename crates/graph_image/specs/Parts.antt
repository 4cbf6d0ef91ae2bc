-- Rows in parts, and what each part lays of an image.
use Rattle.std.specs.Prelude.{◌≡◌, ℕ, ◌+◌, ◌-◌, ◌^◌, ◌<◌, ◌≤◌, ◌++◌, ◌==◌, Bool, cond, List, [], ◌∷◌, length, slice_get, Some}
use Rattle.std.specs.List.{All, AllZip}
use Rattle.graph_model.specs.declared.limits.TheConstants.{MAX_WEIGHT}
use Rattle.graph_model.specs.declared.row.Row.{Row}
use Rattle.part_scan.specs.Parts.{rows_in}
use Rattle.graph_image.specs.Images.{Listed}
use Rattle.graph_image.specs.declared.edge.Arc.{Arc}
use Rattle.graph_image.specs.declared.part.Share.{Share}

-- it is the row of a vertex
abbrev pub is_vertex : Row → Bool
is_vertex r = r.key.second == 0

-- how many of the rows are of vertices
abbrev pub vertices_in : List Row → ℕ
vertices_in [] = 0
vertices_in (r ∷ rows) = cond (is_vertex r) 1 0 + vertices_in rows

-- how many are of arcs
abbrev pub arcs_in : List Row → ℕ
arcs_in [] = 0
arcs_in (r ∷ rows) = cond (is_vertex r) 0 1 + arcs_in rows

-- the vertices, in the order of their rows
abbrev pub ids_of : List Row → List ℕ
ids_of [] = []
ids_of (r ∷ rows) = cond (is_vertex r) (r.key.src ∷ ids_of rows) (ids_of rows)

-- where the arcs of each vertex begin, where so many stand before all of them
abbrev pub starts_from : ℕ → List Row → List ℕ
starts_from before [] = []
starts_from before (r ∷ rows) = cond (is_vertex r) (before ∷ starts_from before rows) (starts_from (before + 1) rows)

-- the rows of arcs
abbrev pub arc_rows : List Row → List Row
arc_rows [] = []
arc_rows (r ∷ rows) = cond (is_vertex r) (arc_rows rows) (r ∷ arc_rows rows)

-- the arc of a row: the place of its target, and its weight
pub record IsArcOf (vertices : List ℕ) (r : Row) (a : Arc) : Type 0 where
  pub to : slice_get vertices a.other ≡ Some (r.key.second - 1)
  pub weight : a.weight ≡ r.weight

-- the weight is within its limit, and the target of an arc is one of the vertices
pub record IsPlaceable (vertices : List ℕ) (r : Row) : Type 0 where
  pub weight : r.weight ≤ MAX_WEIGHT
  pub target : 0 < r.key.second → (q : ℕ) × (slice_get vertices q ≡ Some (r.key.second - 1))

-- so many of the rows are of vertices, and so many of arcs
pub record IsShareOf (rows : List Row) (share : Share) : Type 0 where
  pub vertices : share.vertices ≡ vertices_in rows
  pub arcs : share.arcs ≡ arcs_in rows

-- there is just the room for the vertices of these lists, and for where the arcs of each begin; the places of their
-- arcs, with so many before them, are numbers
pub record FitVertices (lists : List (List Row)) (shares : List Share) (before : ℕ) (vertices starts : List ℕ)
    : Type 0 where
  pub shares_are : AllZip IsShareOf lists shares
  pub few : before + arcs_in (rows_in lists) < 2 ^ 32
  pub short : length (rows_in lists) < 2 ^ 32
  pub vertex_room : length vertices ≡ vertices_in (rows_in lists)
  pub start_room : length starts ≡ vertices_in (rows_in lists)

-- there is just the room for the arcs of these lists, each of which has a place
pub record FitArcs (vertices : List ℕ) (lists : List (List Row)) (shares : List Share) (arcs : List Arc) : Type 0 where
  pub shares_are : AllZip IsShareOf lists shares
  pub short : length (rows_in lists) < 2 ^ 32
  pub placeable : All (IsPlaceable vertices) (rows_in lists)
  pub arc_room : length arcs ≡ arcs_in (rows_in lists)

-- the vertices of the rows, where the arcs out of each begin and at last where they all end, and these arcs
pub record AreLaidOut (rows : List Row) (ids : List ℕ) (out : Listed) : Type 0 where
  pub vertices : ids ≡ ids_of rows
  pub starts : out.starts ≡ starts_from 0 rows ++ arcs_in rows ∷ []
  pub arcs : AllZip (IsArcOf (ids_of rows)) (arc_rows rows) out.arcs
