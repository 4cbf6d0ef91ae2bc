use Rattle.std.proofs.Common.{◌≡◌, ◌++◌, ◌-◌, List}
use Rattle.rule_model.specs.VersionSegment.Rows.{VersionedRows}
use Rattle.loaded_cells.specs.Numbered.{row_counts}
use Rattle.loaded_cells.specs.Ranges.{leaf_segments, segments_from}
use Rattle.loaded_cells.proofs.rest.count_leaf.Given as goal

abbrev pub invariant-segments : goal.invariant-segments
invariant-segments l =
    (front : List VersionedRows)
    × (leaf_segments l.fn.leaf ≡ front ++ segments_from (8 - l._segment) l.rest.low l.rest.high l.rest.rows.now)
    × (l.counts.items ≡ l.fn.counts.items ++ row_counts front)
