use Rattle.std.proofs.Common.{◌≡◌, ◌≤◌, take}
use Rattle.std.specs.Prelude.{count_by}
use Rattle.leaf_rows.specs.Counted.{is_vertex_row}
use Rattle.leaf_rows.proofs.count.vertices_in.Given as goal

-- those of the rows so far
abbrev pub invariant-rows : goal.invariant-rows
invariant-rows l = (l.vertices ≡ count_by is_vertex_row (take l.row-index l.run)) × (l.vertices ≤ l.row-index)
