-- the words so far are of the level
use Rattle.std.proofs.Common.{◌≡◌, ℕ, ◌*◌, ◌<◌, length}
use Rattle.std.specs.Prelude.{slice_index}
use Rattle.kernel_bfs.specs.PlaceSets.{IsWordOf}
use Rattle.kernel_bfs.proofs.place_set.PlaceSet.set_alone.Given as goal

abbrev pub invariant-words : goal.invariant-words
invariant-words l = (length l.self-inside.words.items ≡ length l.fn.self)
    × ((j : ℕ) → j < l.i → IsWordOf l.level l.distances (j * 64) (slice_index l.self-inside.words.items j))
