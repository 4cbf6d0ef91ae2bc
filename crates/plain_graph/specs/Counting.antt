-- How large a graph is.
use Rattle.std.specs.Prelude.{ℕ, List, length, count_by, nat_le}
use Rattle.std.specs.FinMap as fin_map
use Rattle.graph_model.specs.declared.write.Kind.{Kind}
use Rattle.graph_model.specs.declared.write.Kind.TheVariants.{Directed, Undirected}
use Rattle.graph_model.specs.declared.journal.Commit.{Commit}
use Rattle.graph_model.specs.Graph.{Graph, vertices_of}
use Rattle.graph_model.specs.History.{graph_at}
use Rattle.plain_graph.specs.declared.counts.GraphCounts.{GraphCounts}

-- the arcs, and where they have no direction those that don't lead to a lesser vertex
abbrev pub edge_count : Kind → Graph → ℕ
edge_count Directed g = fin_map.len g.arcs
edge_count Undirected g = count_by (λ arc. nat_le arc.0 arc.1) (fin_map.keys g.arcs)

abbrev pub counts_in : Kind → Graph → GraphCounts
counts_in kind g = record { vertices = length (vertices_of g); edges = edge_count kind g }

-- the graph of a whole journal
abbrev pub counts_of : Kind → List Commit → GraphCounts
counts_of kind journal = counts_in kind (graph_at kind journal (length journal))
