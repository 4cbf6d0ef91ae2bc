-- What an image shows of a graph: the vertices by their places, and the arcs at each place.
use Rattle.std.specs.Prelude.{◌≡◌, ℕ, ◌+◌, ◌<◌, List, length, slice_range, slice_index, slice_get, Some}
use Rattle.graph_model.specs.Graph.{Graph, vertices_of, weight_of, HasBothEnds}
use Rattle.graph_image.specs.declared.edge.Arc.{Arc}

-- arcs behind each other, place by place: where those of each place begin, and at last where they all end
pub record Listed : Type 0 where
  pub starts : List ℕ
  pub arcs : List Arc

-- the arcs that are listed at a place
abbrev pub arcs_at : Listed → ℕ → List Arc
arcs_at listed p = slice_range listed.arcs (slice_index listed.starts p) (slice_index listed.starts (p + 1))

-- the vertices in rising order, and at the place of each the arcs that lead from it and those that lead to it
pub record Places : Type 0 where
  pub vertices : List ℕ
  pub out : Listed
  pub into : Listed

-- the ids of the vertices rise
pub record IdsRise (vertices : List ℕ) : Type 0 where
  pub rise : (i j a b : ℕ) → i < j → slice_get vertices i ≡ Some a → slice_get vertices j ≡ Some b → a < b

-- the other end of each arc is one of the first n places
abbrev pub AreWithin : ℕ → List Arc → Type 0
AreWithin n arcs = (i : ℕ) (a : Arc) → slice_get arcs i ≡ Some a → a.other < n

-- ---- an image of a graph

-- an arc of this weight leads from the vertex at p to the vertex at q
pub record LeadsBy (g : Graph) (vertices : List ℕ) (p q weight : ℕ) : Type 0 where
  pub from : ℕ
  pub to : ℕ
  pub from_at : slice_get vertices p ≡ Some from
  pub to_at : slice_get vertices q ≡ Some to
  pub weighs : weight_of g from to ≡ Some weight

-- an arc leads from the vertex at p to the vertex at q
abbrev pub Leads : Graph → List ℕ → ℕ → ℕ → Type 0
Leads g vertices p q = (weight : ℕ) × LeadsBy g vertices p q weight

-- these are just the arcs to or from the other places for which that holds, in rising order of the other place
pub record AreArcs (Holds : ℕ → ℕ → Type 0) (arcs : List Arc) : Type 0 where
  pub rise : (i j : ℕ) (a b : Arc) → i < j → slice_get arcs i ≡ Some a → slice_get arcs j ≡ Some b → a.other < b.other
  pub sound : (i : ℕ) (a : Arc) → slice_get arcs i ≡ Some a → Holds a.other a.weight
  pub complete : (q weight : ℕ) → Holds q weight
      → (i : ℕ) × (slice_get arcs i ≡ Some (record { other = q; weight = weight }))

-- the vertices are those of the graph, and at each place stand the arcs from its vertex and those to it
pub record IsImageOf (image : Places) (g : Graph) : Type 0 where
  pub vertices : image.vertices ≡ vertices_of g
  pub ids : IdsRise image.vertices
  pub ends : HasBothEnds g
  pub out : (p : ℕ) → p < length image.vertices
      → AreArcs (λ q weight. LeadsBy g image.vertices p q weight) (arcs_at image.out p)
  pub into : (p : ℕ) → p < length image.vertices
      → AreArcs (λ q weight. LeadsBy g image.vertices q p weight) (arcs_at image.into p)
