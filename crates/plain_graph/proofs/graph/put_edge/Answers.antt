use Rattle.graph_model.specs.Graph.{with_arc}
use Rattle.plain_graph.proofs.graph.put_edge.Goals as goal

pub returns-in_ok-put_arc-2 : goal.returns-in_ok-put_arc-2
returns-in_ok-put_arc-2 c = λ g has.
    rw c.in-Undirected.is (c.in_ok-put_arc-2.ensures (with_arc g c.args.u c.args.v c.args.weight) (c.in_ok-put_arc.ensures g has))
