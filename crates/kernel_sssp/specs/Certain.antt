-- Distances that show by themselves that they are the least ones.
use Rattle.std.specs.Prelude.{◌≡◌, ℕ, ◌+◌, ◌<◌, ◌≤◌, ◌⊎◌, List, length, slice_index, slice_get, Some}
use Rattle.graph_image.specs.declared.edge.Arc.{Arc}
use Rattle.graph_image.specs.Images.{Places, arcs_at}
use Rattle.kernel_sssp.specs.declared.distances.TheConstants.{UNREACHED}

-- an arc of this weight doesn't lead from the one distance to a lesser one than the other
abbrev pub IsAllowed : ℕ → ℕ → ℕ → Type 0
IsAllowed before weight distance = (before ≡ UNREACHED → ⊥) → (distance ≡ UNREACHED → ⊥) × (distance ≤ before + weight)

-- of the first n arcs, by which a place of this distance is reached, none does
abbrev pub AreAllowed : List ℕ → List Arc → ℕ → ℕ → Type 0
AreAllowed distances arcs n distance = (k : ℕ) (a : Arc) → k < n → slice_get arcs k ≡ Some a
    → IsAllowed (slice_index distances a.other) a.weight distance

-- an arc of this weight, which isn't 0, leads from the one distance to the other
abbrev pub IsMet : ℕ → ℕ → ℕ → Type 0
IsMet before weight distance = (0 < weight) × (before < UNREACHED) × (before + weight ≡ distance)

-- by one of the arcs a place of this distance is reached so
abbrev pub HasMeeting : List ℕ → List Arc → ℕ → Type 0
HasMeeting distances arcs distance =
    (k : ℕ) × (a : Arc) × (slice_get arcs k ≡ Some a) × IsMet (slice_index distances a.other) a.weight distance

-- the distance of the place is right if all others are
pub record IsCertain (image : Places) (root : ℕ) (distances : List ℕ) (place : ℕ) : Type 0 where
  pub allowed : AreAllowed distances (arcs_at image.into place) (length (arcs_at image.into place))
      (slice_index distances place)
  pub met : (place ≡ root) ⊎ ((slice_index distances place ≡ UNREACHED)
      ⊎ HasMeeting distances (arcs_at image.into place) (slice_index distances place))

-- all are
pub record AreCertain (image : Places) (root : ℕ) (distances : List ℕ) : Type 0 where
  pub count : length distances ≡ length image.vertices
  pub start : slice_index distances root ≡ 0
  pub each : (place : ℕ) → place < length image.vertices → IsCertain image root distances place
