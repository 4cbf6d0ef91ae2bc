-- Least weights of paths to places.
use Rattle.std.specs.Prelude.{◌≡◌, ℕ, ◌+◌, ◌<◌, ◌≤◌, ◌==◌, cond, not, List, length, count_by, slice_index, slice_get, Some}
use Rattle.graph_model.specs.declared.table.Value.{Value}
use Rattle.graph_model.specs.declared.table.Value.TheVariants.{Number, Infinity}
use Rattle.graph_image.specs.declared.edge.Arc.{Arc}
use Rattle.graph_image.specs.Images.{Places, arcs_at}
use Rattle.graph_image.specs.Paths.{HasPathBy}
use Rattle.kernel_sssp.specs.declared.distances.TheConstants.{UNREACHED}
use Rattle.kernel_sssp.specs.declared.worker.TheConstants.{FAR}

-- a weight as the table has it
abbrev pub value_of : ℕ → Value
value_of distance = cond (distance == UNREACHED) Infinity (Number distance)

-- a distance of 32 bits, which several threads found, in 64 bits
abbrev pub wide_of : ℕ → ℕ
wide_of distance = cond (distance == FAR) UNREACHED distance

-- an arc of this weight out of p leads to q
abbrev pub LinkOut : Places → ℕ → ℕ → ℕ → Type 0
LinkOut image p q weight = (p < length image.vertices)
    × (k : ℕ) × (slice_get (arcs_at image.out p) k ≡ Some (record { other = q; weight = weight }))

-- A reached place has the weight of a path from the root, and no path has less; no path leads to
-- another place.
pub record IsSearched (Link : ℕ → ℕ → ℕ → Type 0) (root n : ℕ) (distances : List ℕ) : Type 0 where
  pub count : length distances ≡ n
  pub sound : (p : ℕ) → p < n → (slice_index distances p ≡ UNREACHED → ⊥)
      → (k : ℕ) × HasPathBy Link root k p (slice_index distances p)
  pub least : (k p weight : ℕ) → HasPathBy Link root k p weight → slice_index distances p ≤ weight
  pub found : (k p weight : ℕ) → HasPathBy Link root k p weight → slice_index distances p ≡ UNREACHED → ⊥

-- how many places are reached
abbrev pub reached : List ℕ → ℕ
reached distances = count_by (λ d. not (d == UNREACHED)) distances

-- where p is reached, the arc out of it leads to a reached place, at no lesser weight than what is known
abbrev pub IsRelaxed : List ℕ → ℕ → Arc → Type 0
IsRelaxed distances p a = (slice_index distances p ≡ UNREACHED → ⊥) → (slice_index distances a.other ≡ UNREACHED → ⊥)
    × (slice_index distances a.other ≤ slice_index distances p + a.weight)
