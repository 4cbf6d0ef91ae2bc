-- What a round leaves.
use Rattle.std.specs.Prelude.{ℕ, ◌+◌, List, [], length}
use Rattle.graph_model.specs.Graph.{Graph}
use Rattle.graph_image.specs.Images.{Places, IsImageOf}
use Rattle.kernel_bfs.specs.Levels.{Spreads, Advances, FromArc}
use Rattle.kernel_bfs.specs.Frontiers.{places_at, IsAtLevel}
use Rattle.kernel_bfs.specs.declared.frontier.Frontier.{Frontier}

-- The places that had no distance, and to which an arc leads from the level, have the next one, and are its frontier.
pub record HasRound (image : Places) (level : ℕ) (old new : List ℕ) (frontier : Frontier) : Type 0 where
  pub next : IsAtLevel (length image.vertices) (level + 1) new frontier
  pub advances : Advances (level + 1) old new (places_at (level + 1) new)
  pub spreads : (g : Graph) → IsImageOf image g
      → Spreads (FromArc g image.vertices old level) (level + 1) old [] new (places_at (level + 1) new)
