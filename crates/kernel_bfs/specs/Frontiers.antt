-- Frontiers, of which a list may be kept.
use Rattle.std.specs.Prelude.{◌≡◌, ℕ, suc, ◌≤◌, ◌/◌, ◌==◌, cond, List, [], ◌∷◌}
use Rattle.kernel_bfs.specs.Levels.{IsFrontier}
use Rattle.kernel_bfs.specs.declared.frontier.Frontier.{Frontier}

-- the places at the level, in rising order, where the first of the distances is of this place
abbrev pub places_from : ℕ → ℕ → List ℕ → List ℕ
places_from level place [] = []
places_from level place (d ∷ distances) = cond (d == level) (place ∷ places_from level (suc place) distances) (places_from level (suc place) distances)

-- the places at the level, in rising order
abbrev pub places_at : ℕ → List ℕ → List ℕ
places_at level distances = places_from level 0 distances

-- The frontier of a level: where it counts few places they are listed, and it counts none just where there is none.
pub record IsAtLevel (places level : ℕ) (distances : List ℕ) (frontier : Frontier) : Type 0 where
  pub listed : frontier.count ≤ places / 20 → IsFrontier level distances frontier.places.items
  pub none : frontier.count ≡ 0 → places_at level distances ≡ []
  pub some : places_at level distances ≡ [] → frontier.count ≡ 0
