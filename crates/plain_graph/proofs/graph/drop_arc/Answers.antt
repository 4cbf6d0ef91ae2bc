use Rattle.graph_model.specs.Graph.{arc_cmp}
use Rattle.graph_model.proofs.OrderLemmas.{arcs_total, arcs_exact}
use Rattle.plain_graph.proofs.EntryLemmas.{entries_dropped}
use Rattle.plain_graph.proofs.graph.drop_arc.Goals as goal

pub returns : goal.returns
returns c = λ g has. entries_dropped arc_cmp arcs_total arcs_exact g.arcs c.args.arcs.now.entries c.remove.new.self.entries (c.args.u, c.args.v) has c.remove.ensures.entries
