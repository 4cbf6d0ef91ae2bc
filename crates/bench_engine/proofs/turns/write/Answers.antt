use Rattle.graph_model.specs.declared.write.Write.TheVariants.{AddEdge, SetEdge, DropEdge}
use Rattle.bench_engine.proofs.BenchLemmas.{stays_open}
use Rattle.bench_engine.proofs.turns.write.Goals as goal

pub returns-in-Add : goal.returns-in-Add
returns-in-Add g c =
    stays_open (g.E.Engine.account c.args.engine.now) (g.E.Engine.account c.add_edge.new.self) (AddEdge c.from-u.result c.from-v.result 1) c.add_edge.result c.requires
    (g.met.E.Engine.wrote c.args.engine.now c.add_edge.new.self (AddEdge c.from-u.result c.from-v.result 1) c.add_edge.result c.add_edge.ensures).0

pub returns-in-Set : goal.returns-in-Set
returns-in-Set g c =
    stays_open (g.E.Engine.account c.args.engine.now) (g.E.Engine.account c.set_edge.new.self) (SetEdge c.from-u.result c.from-v.result 2) c.set_edge.result c.requires
    (g.met.E.Engine.wrote c.args.engine.now c.set_edge.new.self (SetEdge c.from-u.result c.from-v.result 2) c.set_edge.result c.set_edge.ensures).0

pub returns-in-Drop : goal.returns-in-Drop
returns-in-Drop g c =
    stays_open (g.E.Engine.account c.args.engine.now) (g.E.Engine.account c.drop_edge.new.self) (DropEdge c.from-u.result c.from-v.result) c.drop_edge.result c.requires
    (g.met.E.Engine.wrote c.args.engine.now c.drop_edge.new.self (DropEdge c.from-u.result c.from-v.result) c.drop_edge.result c.drop_edge.ensures).0
