use Rattle.std.proofs.Common.{◌≡◌}
use Rattle.graph_model.specs.History.{graph_at}
use Rattle.plain_graph.specs.Showing.{Shows}
use Rattle.plain_graph.proofs.counts.count_graph.Given as goal

-- the graph is that of the commits so far
abbrev pub invariant-commits : goal.invariant-commits
invariant-commits l = record {
  shows : Shows l.graph (graph_at l.fn.kind l.journal l.commit-index);
  kind : l.graph.kind ≡ l.fn.kind;
}
