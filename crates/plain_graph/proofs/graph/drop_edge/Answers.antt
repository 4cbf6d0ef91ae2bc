use Rattle.graph_model.specs.Graph.{without_arc}
use Rattle.plain_graph.proofs.graph.drop_edge.Goals as goal

pub returns-in-Undirected : goal.returns-in-Undirected
returns-in-Undirected c = λ g has. rw c.in-Undirected.is (c.drop_arc-in-Undirected.ensures (without_arc g c.args.u c.args.v) (c.drop_arc.ensures g has))
