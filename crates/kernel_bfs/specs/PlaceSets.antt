-- Sets of places, as bits of words of 64.
use Rattle.std.specs.Prelude.{◌≡◌, ℕ, ◌<◌, ◌≤◌, ◌+◌, ◌*◌, ◌/◌, ◌%◌, ◌==◌, Bool, cond, List, length, slice_index}
use Rattle.std.specs.Int.{bit_at}
use Rattle.std.specs.List.{list_any}
use Rattle.graph_image.specs.declared.edge.Arc.{Arc}
use Rattle.graph_image.specs.Images.{Places, arcs_at}
use Rattle.kernel_bfs.specs.declared.levels.TheConstants.{UNREACHED}

-- the place's bit is set
abbrev pub has_bit : List ℕ → ℕ → Bool
has_bit words place = bit_at (slice_index words (place / 64)) (place % 64) == 1

-- each of the first n places has a bit
abbrev pub HasPlaces : ℕ → List ℕ → Type 0
HasPlaces n words = n ≤ 64 * length words

-- of the word's places, of which this is the first, just those at the level have their bit set
abbrev pub IsWordOf : ℕ → List ℕ → ℕ → ℕ → Type 0
IsWordOf level distances first word = (k : ℕ) → k < 64 → first + k < length distances
    → (bit_at word k == 1) ≡ (slice_index distances (first + k) == level)

-- ---- a round along the arcs into each place

-- one of the arcs has a place of the set at its other end
abbrev pub meets : List ℕ → List Arc → Bool
meets words arcs = list_any (λ a. has_bit words a.other) arcs

-- the distance of a place after a round
abbrev pub distance_after : Places → List ℕ → ℕ → ℕ → ℕ → ℕ
distance_after image words level place distance =
    cond (distance == UNREACHED) (cond (meets words (arcs_at image.into place)) (level + 1) UNREACHED) distance

-- each place without a distance has the next one where an arc leads into it from the set
pub record IsSwept (image : Places) (words : List ℕ) (level : ℕ) (old new : List ℕ) : Type 0 where
  pub count : length new ≡ length old
  pub each : (place : ℕ) → place < length old
      → slice_index new place ≡ distance_after image words level place (slice_index old place)

-- just the places at the level are in the set
abbrev pub IsOfLevel : ℕ → List ℕ → List ℕ → Type 0
IsOfLevel level distances words = (p : ℕ) → p < length distances
    → has_bit words p ≡ (slice_index distances p == level)
