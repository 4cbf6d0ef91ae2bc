-- Rows that are counted. Only the crate itself speaks of them.
use Rattle.std.specs.Prelude.{◌==◌, Bool}
use Rattle.graph_model.specs.declared.row.Row.{Row}

-- the row of a vertex
abbrev pub is_vertex_row : Row → Bool
is_vertex_row row = row.key.second == 0
