-- Labels by place, and what joining two places makes of them.
use Rattle.std.specs.Prelude.{◌≡◌, ℕ, ◌<◌, ◌≤◌, ◌⊎◌, List, length, take, slice_get, slice_index, Some}
use Rattle.graph_model.specs.declared.table.Value.{Value}
use Rattle.graph_model.specs.declared.table.Value.TheVariants.{Number}
use Rattle.graph_model.specs.Graph.{Graph}
use Rattle.graph_image.specs.declared.edge.Arc.{Arc}
use Rattle.graph_image.specs.Images.{Places, arcs_at, Leads, IsImageOf}
use Rattle.graph_image.specs.Paths.{HasTrail}

-- a label as the table has it: the id at that place
abbrev pub value_of : List ℕ → ℕ → Value
value_of vertices label = Number (slice_index vertices label)

-- no label is above its place
abbrev pub AreLow : List ℕ → Type 0
AreLow labels = (p label : ℕ) → slice_get labels p ≡ Some label → label ≤ p

-- the label is a lower place to which the first arc of the list leads, or p itself
abbrev pub IsFirstLabel : List Arc → ℕ → ℕ → Type 0
IsFirstLabel arcs p label = (label ≡ p) ⊎ ((a : Arc) × (slice_get arcs 0 ≡ Some a) × (a.other < p) × (label ≡ a.other))

-- each place has its first label
pub record AreFirstLabels (image : Places) (labels : List ℕ) : Type 0 where
  pub count : length labels ≡ length image.vertices
  pub each : (p : ℕ) → p < length image.vertices → IsFirstLabel (arcs_at image.out p) p (slice_index labels p)

-- ---- what labels join

-- a trail joins the two places
abbrev pub Joins : (ℕ → ℕ → Type 0) → ℕ → ℕ → Type 0
Joins Link p q = (cs : List ℕ) × HasTrail Link p cs q

-- a trail leads from each place to its label
abbrev pub AreReached : (ℕ → ℕ → Type 0) → List ℕ → Type 0
AreReached Link labels = (p label : ℕ) → slice_get labels p ≡ Some label → Joins Link p label

-- f is equal at each place and at its label: so it is equal at all places that labels join
abbrev pub Follows : (ℕ → ℕ) → List ℕ → Type 0
Follows f labels = (p : ℕ) → p < length labels → f p ≡ f (slice_index labels p)

-- p has the label q, or these are a and b
abbrev pub IsLabelOr : List ℕ → ℕ → ℕ → ℕ → ℕ → Type 0
IsLabelOr labels a b p q = (slice_get labels p ≡ Some q) ⊎ ((p ≡ a) × (q ≡ b))

-- the labels join what the labels before joined, and a and b; and nothing else
pub record IsJoined (old : List ℕ) (a b : ℕ) (new : List ℕ) : Type 0 where
  pub count : length new ≡ length old
  pub low : AreLow new
  pub kept : (f : ℕ → ℕ) → Follows f new → Follows f old × (f a ≡ f b)
  pub reached : AreReached (IsLabelOr old a b) new

-- f is equal at p and at the other ends of the arcs
abbrev pub HasEqualEnds : (ℕ → ℕ) → ℕ → List Arc → Type 0
HasEqualEnds f p arcs = (k : ℕ) (a : Arc) → slice_get arcs k ≡ Some a → f p ≡ f a.other

-- p has the label q, or it is a, and an arc of the list leads from it to q
abbrev pub IsLabelOrEnd : List ℕ → ℕ → List Arc → ℕ → ℕ → Type 0
IsLabelOrEnd labels a arcs p q = (slice_get labels p ≡ Some q)
    ⊎ ((p ≡ a) × (k : ℕ) × (arc : Arc) × (slice_get arcs k ≡ Some arc) × (q ≡ arc.other))

-- the labels join what the labels before joined, and p with the other ends of the first n arcs; and nothing else
pub record AreJoined (old : List ℕ) (p : ℕ) (arcs : List Arc) (n : ℕ) (new : List ℕ) : Type 0 where
  pub count : length new ≡ length old
  pub low : AreLow new
  pub kept : (f : ℕ → ℕ) → Follows f new → Follows f old × HasEqualEnds f p (take n arcs)
  pub reached : AreReached (IsLabelOrEnd old p arcs) new

-- the first n places have labels, which join nothing that no trail joins
pub record AreSound (image : Places) (n : ℕ) (labels : List ℕ) : Type 0 where
  pub count : length labels ≡ n
  pub low : AreLow labels
  pub reached : (g : Graph) → IsImageOf image g → AreReached (Leads g image.vertices) labels

-- f is equal at the place and at the large one, or at the place and at the other ends of all its arcs
abbrev pub IsDone : Places → ℕ → (ℕ → ℕ) → ℕ → Type 0
IsDone image large f p = (f p ≡ f large)
    ⊎ (HasEqualEnds f p (arcs_at image.out p) × HasEqualEnds f p (arcs_at image.into p))

-- The labels join each of the first p places with the large one, or with the other ends of all its arcs; and
-- nothing that no trail joins.
pub record AreMerged (image : Places) (large p : ℕ) (labels : List ℕ) : Type 0 where
  pub sound : AreSound image (length image.vertices) labels
  pub kept : (f : ℕ → ℕ) → Follows f labels → (q : ℕ) → q < p → IsDone image large f q

-- each place has the label of its label before, and keeps its own if that was itself
pub record IsSettled (old new : List ℕ) : Type 0 where
  pub count : length new ≡ length old
  pub each : (p : ℕ) → p < length old → slice_index new p ≡ slice_index new (slice_index old p)
  pub roots : (p : ℕ) → p < length old → slice_index old p ≡ p → slice_index new p ≡ p

-- a trail leads from each place to its label, and no trail leads from it to a lower place
pub record AreComponents (Link : ℕ → ℕ → Type 0) (labels : List ℕ) : Type 0 where
  pub reached : (p label : ℕ) → slice_get labels p ≡ Some label → (cs : List ℕ) × HasTrail Link p cs label
  pub least : (p q label : ℕ) (cs : List ℕ) → slice_get labels p ≡ Some label → HasTrail Link p cs q → label ≤ q
