-- The graph of a journal's first commits, and what a transaction sees of it.
use Rattle.std.specs.Prelude.{ℕ, List, take}
use Rattle.std.specs.List.{flat_map}
use Rattle.graph_model.specs.declared.write.Kind.{Kind}
use Rattle.graph_model.specs.declared.write.Write.{Write}
use Rattle.graph_model.specs.declared.journal.Commit.{Commit}
use Rattle.graph_model.specs.Graph.{Graph, empty_graph, apply_all}

-- the writes of commits, in their order
abbrev pub writes_of : List Commit → List Write
writes_of commits = flat_map (λ c. c.writes) commits

-- the graph that the first commits make of the empty one
abbrev pub graph_at : Kind → List Commit → ℕ → Graph
graph_at kind journal stamp = apply_all kind empty_graph (writes_of (take stamp journal))

-- the snapshot of a transaction: the commits up to its start, under its own writes
abbrev pub view : Kind → List Commit → ℕ → List Write → Graph
view kind journal start own = apply_all kind (graph_at kind journal start) own
