use Rattle.std.proofs.Common.{length}
use Rattle.graph_model.specs.Graph.{Graph}
use Rattle.graph_image.specs.Images.{Leads, IsImageOf}
use Rattle.kernel_bfs.proofs.LevelLemmas.{IsOnLevel, IsRight}
use Rattle.kernel_bfs.specs.PlaceSets.{HasPlaces}
use Rattle.kernel_bfs.specs.Frontiers.{places_at, IsAtLevel}
use Rattle.kernel_bfs.proofs.levels.search.Given as goal

-- the distances are right up to the level, at which the frontier is; and the set has room for each place
abbrev pub invariant-levels : goal.invariant-levels
invariant-levels g l = IsOnLevel (length l.image.vertices) l.level l.distances.items (places_at l.level l.distances.items)
    × ((g : Graph) → IsImageOf l.image g → IsRight (Leads g l.image.vertices) l.root l.level l.distances.items)
    × HasPlaces (length l.image.vertices) l.set
    × IsAtLevel (length l.image.vertices) l.level l.distances.items l.frontier
