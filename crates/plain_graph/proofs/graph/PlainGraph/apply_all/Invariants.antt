use Rattle.std.proofs.Common.{◌≡◌, take}
use Rattle.graph_model.specs.Graph.{Graph, apply_all}
use Rattle.plain_graph.specs.Showing.{Shows}
use Rattle.plain_graph.proofs.graph.PlainGraph.apply_all.Given as goal

-- the writes so far are made
abbrev pub invariant-writes : goal.invariant-writes
invariant-writes l = record {
  shows : (g : Graph) → Shows l.fn.self g → Shows l.self (apply_all l.fn.self.kind g (take l.write-index l.writes));
  kind : l.self.kind ≡ l.fn.self.kind;
}
