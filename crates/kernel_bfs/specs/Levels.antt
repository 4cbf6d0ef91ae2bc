-- Levels of a search, and what a round does.
use Rattle.std.specs.Prelude.{◌≡◌, ℕ, ◌+◌, ◌<◌, ◌≤◌, ◌==◌, ◌⊎◌, Bool, cond, List, length, slice_get, slice_index, Some}
use Rattle.std.specs.List.{list_any}
use Rattle.graph_model.specs.declared.limits.TheConstants.{NO_WALK}
use Rattle.graph_model.specs.declared.table.Value.{Value}
use Rattle.graph_model.specs.declared.table.Value.TheVariants.{Number}
use Rattle.graph_image.specs.declared.edge.Arc.{Arc}
use Rattle.graph_model.specs.Graph.{Graph}
use Rattle.graph_image.specs.Images.{Places, arcs_at, Leads}
use Rattle.graph_image.specs.Paths.{HasPath}
use Rattle.kernel_bfs.specs.declared.levels.TheConstants.{UNREACHED}

-- a distance as the table has it
abbrev pub value_of : ℕ → Value
value_of distance = cond (distance == UNREACHED) (Number NO_WALK) (Number distance)

-- ---- places and what leads to them

-- an arc out of q leads to p
abbrev pub LinkOut : Places → ℕ → ℕ → Type 0
LinkOut image q p = (k : ℕ) × (a : Arc) × (slice_get (arcs_at image.out q) k ≡ Some a) × (a.other ≡ p)

-- an arc into p leads from q
abbrev pub LinkInto : Places → ℕ → ℕ → Type 0
LinkInto image q p = (k : ℕ) × (a : Arc) × (slice_get (arcs_at image.into p) k ≡ Some a) × (a.other ≡ q)

-- one of the first n arcs leads to p
abbrev pub AtEnd : List Arc → ℕ → ℕ → Type 0
AtEnd arcs n p = (k : ℕ) × (a : Arc) × (k < n) × (slice_get arcs k ≡ Some a) × (a.other ≡ p)

-- an arc out of one of the first n listed places leads to p
abbrev pub FromListed : Places → List ℕ → ℕ → ℕ → Type 0
FromListed image listed n p = (j q : ℕ) × (j < n) × (slice_get listed j ≡ Some q) × LinkOut image q p

-- an arc into p leads from a place at the level
abbrev pub FromLevel : Places → List ℕ → ℕ → ℕ → Type 0
FromLevel image distances level p =
    (p < length image.vertices) × ((q : ℕ) × (slice_get distances q ≡ Some level) × LinkInto image q p)

-- in the graph an arc leads to p from a place at the level
abbrev pub FromArc : Graph → List ℕ → List ℕ → ℕ → ℕ → Type 0
FromArc g vertices distances level p = (q : ℕ) × (slice_get distances q ≡ Some level) × Leads g vertices q p

-- ---- rounds

-- The targets that had no distance have this one now, and are listed behind what was listed; all
-- else is as it was.
pub record Spreads (Target : ℕ → Type 0) (distance : ℕ) (old listed new later : List ℕ) : Type 0 where
  pub count : length new ≡ length old
  pub kept : (p d : ℕ) → slice_get old p ≡ Some d → (d ≡ UNREACHED → ⊥) → slice_get new p ≡ Some d
  pub fresh : (p : ℕ) → slice_get old p ≡ Some UNREACHED → (slice_get new p ≡ Some UNREACHED)
      ⊎ ((slice_get new p ≡ Some distance) × Target p × (k : ℕ) × (slice_get later k ≡ Some p))
  pub still : (k p : ℕ) → slice_get listed k ≡ Some p → (j : ℕ) × (slice_get later j ≡ Some p)
  pub only : (k p : ℕ) → slice_get later k ≡ Some p → ((j : ℕ) × (slice_get listed j ≡ Some p))
      ⊎ ((slice_get old p ≡ Some UNREACHED) × (slice_get new p ≡ Some distance))
  pub done : (p : ℕ) → Target p → slice_get new p ≡ Some UNREACHED → ⊥

-- what a round does to distances, whatever leads to the places that it reaches
pub record Advances (distance : ℕ) (old new later : List ℕ) : Type 0 where
  pub count : length new ≡ length old
  pub kept : (p d : ℕ) → slice_get old p ≡ Some d → (d ≡ UNREACHED → ⊥) → slice_get new p ≡ Some d
  pub fresh : (p : ℕ) → slice_get old p ≡ Some UNREACHED → (slice_get new p ≡ Some UNREACHED)
      ⊎ ((slice_get new p ≡ Some distance) × (k : ℕ) × (slice_get later k ≡ Some p))
  pub only : (k p : ℕ) → slice_get later k ≡ Some p
      → (slice_get old p ≡ Some UNREACHED) × (slice_get new p ≡ Some distance)

-- no distance is above the level
abbrev pub HasNoneAbove : ℕ → List ℕ → Type 0
HasNoneAbove level distances = (p d : ℕ) → slice_get distances p ≡ Some d → (d ≡ UNREACHED → ⊥) → d ≤ level

-- just the places at the level are listed
pub record IsFrontier (level : ℕ) (distances listed : List ℕ) : Type 0 where
  pub sound : (k p : ℕ) → slice_get listed k ≡ Some p → slice_get distances p ≡ Some level
  pub complete : (p : ℕ) → slice_get distances p ≡ Some level → (k : ℕ) × (slice_get listed k ≡ Some p)

-- one of the arcs has a place at the level at its other end
abbrev pub has_at : List ℕ → ℕ → List Arc → Bool
has_at distances level arcs = list_any (λ a. slice_index distances a.other == level) arcs

-- the distance of a place after a round
abbrev pub next_distance : Places → List ℕ → ℕ → ℕ → ℕ
next_distance image distances level p =
    cond (slice_index distances p == UNREACHED)
    (cond (has_at distances level (arcs_at image.into p)) (level + 1) UNREACHED)
    (slice_index distances p)

-- each place has its distance after the round
pub record IsRound (image : Places) (level : ℕ) (old new : List ℕ) : Type 0 where
  pub count : length new ≡ length old
  pub each : (p : ℕ) → p < length old → slice_index new p ≡ next_distance image old level p

-- ---- what a search gives

-- a reached place has the length of a path from the root, and no path is shorter
pub record IsSearched (Link : ℕ → ℕ → Type 0) (root : ℕ) (distances : List ℕ) : Type 0 where
  pub sound : (p d : ℕ) → slice_get distances p ≡ Some d → (d ≡ UNREACHED → ⊥) → HasPath Link root d p
  pub least : (n p : ℕ) → HasPath Link root n p
      → (d : ℕ) × (slice_get distances p ≡ Some d) × (d ≡ UNREACHED → ⊥) × (d ≤ n)
