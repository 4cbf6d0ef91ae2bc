-- Parts of the places.
use Rattle.std.specs.Prelude.{◌≡◌, ℕ, ◌+◌, ◌<◌, ◌≤◌, List, length, slice_index, slice_get, Some}
use Rattle.graph_image.specs.Images.{Places, arcs_at}
use Rattle.kernel_cdlp.specs.declared.part.Part.{Part}
use Rattle.kernel_cdlp.specs.Rounds.{IsNextLabel}

-- how many places the part holds
abbrev pub places_in : Part → ℕ
places_in part = length part.labels.items

-- the places of the part are among the image's, and each has room for what it meets
pub record IsPart (image : Places) (part : Part) : Type 0 where
  pub within : part.first + places_in part ≤ length image.vertices
  pub room : (k : ℕ) → k < places_in part
      → length (arcs_at image.out (part.first + k)) + length (arcs_at image.into (part.first + k))
      ≤ length part.met.items

-- each place of the part has its label after a round from these labels
abbrev pub HasNextLabels : Places → List ℕ → Part → Type 0
HasNextLabels image labels part = (k : ℕ) → k < places_in part
    → IsNextLabel image labels (part.first + k) (slice_index part.labels.items k)

-- the part holds the same places, which have their labels after the round
pub record IsRelabelled (image : Places) (labels : List ℕ) (old new : Part) : Type 0 where
  pub part : IsPart image new
  pub first : new.first ≡ old.first
  pub count : places_in new ≡ places_in old
  pub each : HasNextLabels image labels new

-- behind the first i parts comes place p; behind the last, place n
pub record Meets (n : ℕ) (parts : List Part) (i p : ℕ) : Type 0 where
  pub next : (part : Part) → slice_get parts i ≡ Some part → part.first ≡ p
  pub end : i ≡ length parts → p ≡ n

-- the parts lie behind each other and hold the first n places
pub record AreParts (image : Places) (n : ℕ) (parts : List Part) : Type 0 where
  pub each : (i : ℕ) (part : Part) → slice_get parts i ≡ Some part → IsPart image part
  pub start : Meets n parts 0 0
  pub step : (i : ℕ) (part : Part) → slice_get parts i ≡ Some part → Meets n parts (i + 1) (part.first + places_in part)

-- the places of each part have their labels after the round
abbrev pub AreRelabelled : Places → List ℕ → List Part → Type 0
AreRelabelled image labels parts = (i : ℕ) (part : Part) → slice_get parts i ≡ Some part
    → HasNextLabels image labels part
