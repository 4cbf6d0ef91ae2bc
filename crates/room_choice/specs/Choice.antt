-- How room for rows is made in a leaf, by the counts of its segments.
use Rattle.std.specs.Prelude.{◌≡◌, ℕ, ◌+◌, ◌<◌, ◌≤◌, List, Some, None, slice_index, sum}
use Rattle.std.specs.List.{AllByRecursion}
use Rattle.graph_model.specs.declared.limits.TheConstants.{SEGMENT_ROWS, SPLIT_ROWS}
use Rattle.density_tree.specs.declared.window.Window.{Window}
use Rattle.density_tree.specs.Division.{evenly}
use Rattle.density_tree.specs.Windows.{Fits, IsRound, IsSmallestWindow, rows_in}
use Rattle.room_choice.specs.declared.choice.RoomChoice.{RoomChoice}
use Rattle.room_choice.specs.declared.choice.RoomChoice.TheVariants as choices

-- the segment has so many free places
abbrev pub HasPlaces : List ℕ → ℕ → ℕ → Type 0
HasPlaces counts segment need = slice_index counts segment + need ≤ SEGMENT_ROWS

-- The segment lacks them, and this is the smallest window round it that has room for the rows needed. Once its rows are
-- divided evenly each of its segments has two free places.
pub record IsSpread (counts : List ℕ) (segment need : ℕ) (window : Window) : Type 0 where
  pub short : ¬ HasPlaces counts segment need
  pub smallest : IsSmallestWindow (Fits counts need) segment (Some window)
  pub round : IsRound segment window
  pub places : AllByRecursion (λ count. count + 2 ≤ SEGMENT_ROWS) (evenly (rows_in counts window) window.len)

-- The segment lacks them, and no window round it has room for the rows needed. So the leaf has as many rows as a leaf
-- that has just been split, and as many more as a split takes away.
pub record IsCrowded (counts : List ℕ) (segment need : ℕ) : Type 0 where
  pub short : ¬ HasPlaces counts segment need
  pub windows : IsSmallestWindow (Fits counts need) segment None
  pub rows : SPLIT_ROWS + (SPLIT_ROWS + 1) ≤ sum counts

-- when which choice is made, by how many leaves are free
abbrev pub IsRoomChoice : List ℕ → ℕ → ℕ → ℕ → RoomChoice → Type 0
IsRoomChoice counts segment need free choices.Enough = HasPlaces counts segment need
IsRoomChoice counts segment need free (choices.Spread window) = IsSpread counts segment need window
IsRoomChoice counts segment need free choices.Split = IsCrowded counts segment need × (0 < free)
IsRoomChoice counts segment need free choices.Full = IsCrowded counts segment need × (free ≡ 0)
