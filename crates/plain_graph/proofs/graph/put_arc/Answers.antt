use Rattle.graph_model.specs.Graph.{arc_cmp}
use Rattle.graph_model.proofs.OrderLemmas.{arcs_total, arcs_exact}
use Rattle.plain_graph.proofs.EntryLemmas.{entries_put}
use Rattle.plain_graph.proofs.graph.put_arc.Goals as goal

pub returns : goal.returns
returns c = λ g has. entries_put arc_cmp arcs_total arcs_exact g.arcs c.args.arcs.now.entries c.insert.new.self.entries (c.args.u, c.args.v) c.args.weight has c.in_ok-insert.ensures.entries
