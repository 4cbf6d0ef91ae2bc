-- Windows of segments, and which of them is the smallest that will do.
use Rattle.std.specs.Prelude.{◌≡◌, ℕ, ◌+◌, ◌*◌, ◌/◌, ◌^◌, ◌<◌, ◌≤◌, List, Option, Some, None, take, drop, sum, slice_index}
use Rattle.density_tree.specs.declared.window.Window.{Window}
use Rattle.density_tree.specs.declared.window.TheConstants.{UPPER_LIMITS, LOWER_LIMITS}

-- the window of a height that has the segment
abbrev pub window_round : ℕ → ℕ → Window
window_round seg height = record { first = seg / 2 ^ height * 2 ^ height; len = 2 ^ height }

abbrev pub rows_in : List ℕ → Window → ℕ
rows_in counts window = sum (take window.len (drop window.first counts))

-- the segment is one of the window's, and all of these are the leaf's
pub record IsRound (seg : ℕ) (window : Window) : Type 0 where
  pub from : window.first ≤ seg
  pub until : seg < window.first + window.len
  pub within : window.first + window.len ≤ 8

-- the window has room for the rows needed beside its own
abbrev pub Fits : List ℕ → ℕ → ℕ → Window → Type 0
Fits counts need height window = rows_in counts window + need ≤ slice_index UPPER_LIMITS height

-- the window has as many rows as it should have at least
abbrev pub IsDense : List ℕ → ℕ → Window → Type 0
IsDense counts height window = slice_index LOWER_LIMITS height ≤ rows_in counts window

-- none of the windows round the segment will do that are higher than one segment and lower than this
abbrev pub NoneBelow : (ℕ → Window → Type 0) → ℕ → ℕ → Type 0
NoneBelow Will seg height = (lower : ℕ) → 1 ≤ lower → lower < height → ¬ Will lower (window_round seg lower)

-- it is the window of this height round the segment, and will do
pub record IsSmallest (Will : ℕ → Window → Type 0) (seg : ℕ) (window : Window) : Type 0 where
  pub height : ℕ
  pub higher : 1 ≤ height
  pub within : height < 4
  pub round : window ≡ window_round seg height
  pub will : Will height window
  pub smallest : NoneBelow Will seg height

-- the smallest window of two, four or eight segments that will do, or none where none will
abbrev pub IsSmallestWindow : (ℕ → Window → Type 0) → ℕ → Option Window → Type 0
IsSmallestWindow Will seg (Some window) = IsSmallest Will seg window
IsSmallestWindow Will seg None = NoneBelow Will seg 4
