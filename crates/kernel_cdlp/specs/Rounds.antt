-- Rounds of labels over places. A label is a place.
use Rattle.std.specs.Prelude.{◌≡◌, ℕ, ◌<◌, ◌++◌, Bool, false, true, List, map, length, slice_index, slice_get, Some}
use Rattle.graph_model.specs.declared.write.Kind.TheVariants.{Directed}
use Rattle.graph_model.specs.declared.table.Value.{Value}
use Rattle.graph_model.specs.declared.table.Value.TheVariants.{Number}
use Rattle.graph_model.specs.Graph.{Graph}
use Rattle.graph_model.specs.Labels.{label}
use Rattle.graph_image.specs.declared.edge.Arc.{Arc}
use Rattle.graph_image.specs.Images.{Places, arcs_at}
use Rattle.kernel_cdlp.specs.Frequency.{IsMostFrequentOr}

-- the labels at the other ends of arcs
abbrev pub labels_met : List ℕ → List Arc → List ℕ
labels_met labels arcs = map (λ a. slice_index labels a.other) arcs

-- the arcs out and the arcs in are the same arcs, as those of each graph's image are
pub record IsLinked (image : Places) : Type 0 where
  pub out : (p k : ℕ) (a : Arc) → p < length image.vertices → slice_get (arcs_at image.out p) k ≡ Some a
      → (l : ℕ) × (slice_get (arcs_at image.into a.other) l ≡ Some (record { other = p; weight = a.weight }))
  pub into : (p k : ℕ) (a : Arc) → p < length image.vertices → slice_get (arcs_at image.into p) k ≡ Some a
      → (l : ℕ) × (slice_get (arcs_at image.out a.other) l ≡ Some (record { other = p; weight = a.weight }))

-- x is the label of p after a round: p meets a label for each arc out, and one for each arc in
pub record IsNextLabel (image : Places) (labels : List ℕ) (p x : ℕ) : Type 0 where
  pub most : IsLinked image → IsMostFrequentOr (slice_index labels p)
      (labels_met labels (arcs_at image.out p) ++ labels_met labels (arcs_at image.into p)) x
  pub below : x < length image.vertices

-- each place has its label after the round
pub record IsRound (image : Places) (old new : List ℕ) : Type 0 where
  pub count : length new ≡ length image.vertices
  pub each : (p : ℕ) → p < length image.vertices → IsNextLabel image old p (slice_index new p)

-- ---- labels that stay

-- none of the labels at the other ends of the arcs has changed
abbrev pub HaveNotChanged : List Bool → List Arc → Type 0
HaveNotChanged changed arcs = (k : ℕ) (a : Arc) → slice_get arcs k ≡ Some a → slice_get changed a.other ≡ Some false

-- none of the labels that p meets has changed
abbrev pub IsQuiet : Places → List Bool → ℕ → Type 0
IsQuiet image changed p = HaveNotChanged changed (arcs_at image.out p) × HaveNotChanged changed (arcs_at image.into p)

-- p has the label that a round would give it
abbrev pub HasNextLabel : Places → List ℕ → ℕ → Type 0
HasNextLabel image labels p = IsNextLabel image labels p (slice_index labels p)

-- a place none of whose labels met has changed in the round before has its next label already
pub record IsKept (image : Places) (labels : List ℕ) (changed : List Bool) : Type 0 where
  pub count : length changed ≡ length image.vertices
  pub each : (p : ℕ) → p < length image.vertices → IsQuiet image changed p → HasNextLabel image labels p

-- a place that isn't awake meets no label that has changed
pub record IsRoused (image : Places) (changed awake : List Bool) : Type 0 where
  pub count : length awake ≡ length image.vertices
  pub each : IsLinked image → (p : ℕ) → p < length image.vertices → slice_get awake p ≡ Some false → IsQuiet image changed p

-- the other ends of the first i arcs are awake, and so is who was
pub record IsWoken (old : List Bool) (arcs : List Arc) (i : ℕ) (awake : List Bool) : Type 0 where
  pub count : length awake ≡ length old
  pub stays : (p : ℕ) → slice_get old p ≡ Some true → slice_get awake p ≡ Some true
  pub ends : (k : ℕ) (a : Arc) → k < i → slice_get arcs k ≡ Some a → slice_get awake a.other ≡ Some true

-- a place that isn't marked has the label that it had before
pub record AreMarked (before after : List ℕ) (changed : List Bool) : Type 0 where
  pub count : length changed ≡ length after
  pub each : (p : ℕ) → slice_get changed p ≡ Some false → slice_index after p ≡ slice_index before p

-- there is a label for each of n places, and each label is one of them
pub record AreBelow (n : ℕ) (labels : List ℕ) : Type 0 where
  pub count : length labels ≡ n
  pub each : (p : ℕ) → p < n → slice_index labels p < n

-- each place has as its label the place of its vertex's label after so many rounds
abbrev pub AreLabels : Graph → List ℕ → ℕ → List ℕ → Type 0
AreLabels g vertices rounds labels = (p v : ℕ) → slice_get vertices p ≡ Some v
    → slice_get vertices (slice_index labels p) ≡ Some (label Directed g rounds v)

-- a label as the table has it: the id at that place
abbrev pub value_of : List ℕ → ℕ → Value
value_of vertices label = Number (slice_index vertices label)
