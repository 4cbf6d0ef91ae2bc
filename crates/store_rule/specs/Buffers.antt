-- Memory for the rows of unpacked cells.
use Rattle.std.specs.Prelude.{◌≡◌, List, []}
use Rattle.std.specs.List.{AllByRecursion}
use Rattle.gap_segment.specs.Fenced.{FencedRows}

-- none of these segments has a row
abbrev pub AreVacant : List FencedRows → Type 0
AreVacant rooms = AllByRecursion (λ s. s.rows ≡ []) rooms
