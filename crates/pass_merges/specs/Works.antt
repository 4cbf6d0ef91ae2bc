-- What there is to do with a leaf.
use Rattle.std.specs.Prelude.{List}
use Rattle.pass_moves.specs.VersionSegment.Rows.{VersionedRows}
use Rattle.pass_moves.specs.LeafArray.Segments.{counts_of}
use Rattle.pass_moves.specs.LeafStore.Merging.{IsLeftmostWindow, IsLevel}
use Rattle.pass_merges.specs.declared.work.MergeWork.{MergeWork}
use Rattle.pass_merges.specs.declared.work.MergeWork.TheVariants.{Spread, Look, Nothing}

-- the first sparse window of the leaf is to be spread; or it has none
abbrev pub IsWork : List VersionedRows → MergeWork → Type 0
IsWork ss (Spread window) = IsLeftmostWindow (counts_of ss) window
IsWork ss (Look leaf) = IsLevel ss
IsWork ss Nothing = IsLevel ss
