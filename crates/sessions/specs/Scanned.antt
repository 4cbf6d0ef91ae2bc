-- The arcs that lead from a vertex, by the rows of a graph.
use Rattle.std.specs.Prelude.{ℕ, ◌+◌, ◌-◌, List, map}
use Rattle.graph_model.specs.declared.row.Row.{Row}
use Rattle.graph_model.specs.Graph.{Graph}
use Rattle.graph_model.specs.Rows.{rows}
use Rattle.sessions.specs.declared.scans.Neighbour.{Neighbour}

-- the vertex that an arc leads to, with the weight of the arc
abbrev pub neighbour_of : Row → Neighbour
neighbour_of row = record { id = row.key.second - 1; weight = row.weight }

-- one for each arc that leads from a vertex, in rising order of id
abbrev pub neighbours_of : Graph → ℕ → List Neighbour
neighbours_of g v = map neighbour_of (rows g (record { src = v; second = 1 }) (record { src = v + 1; second = 0 }))
