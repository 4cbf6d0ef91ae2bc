-- Rows in lists, one list behind the other.
use Rattle.std.specs.Prelude.{List, [], ◌∷◌, ◌++◌}
use Rattle.graph_model.specs.declared.row.Row.{Row}

-- the rows of all lists, in the order of the lists
abbrev pub rows_in : List (List Row) → List Row
rows_in [] = []
rows_in (rows ∷ lists) = rows ++ rows_in lists
