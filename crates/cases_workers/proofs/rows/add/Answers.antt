use Rattle.std.proofs.Common.{◌+◌}
use Rattle.graph_model.specs.declared.write.Write.TheVariants.{AddVertex}
use Rattle.cases_workers.proofs.OpenLemmas.{stays_open}
use Rattle.cases_workers.proofs.rows.add.Goals as goal

pub vertices-preserved : goal.vertices-preserved
vertices-preserved g c =
    (stays_open (g.E.Engine.account c.args.engine.now) (g.E.Engine.account c.vertices.engine)
    (g.E.Engine.account c.add_vertex.new.self) (AddVertex (c.from.result + 1)) c.add_vertex.result c.vertices.invariant
    (g.met.E.Engine.wrote c.vertices.engine c.add_vertex.new.self (AddVertex (c.from.result + 1)) c.add_vertex.result c.add_vertex.ensures).0)

pub returns-in-Err-clause-current : goal.returns-in-Err-clause-current
returns-in-Err-clause-current g c =
    (stays_open (g.E.Engine.account c.args.engine.now) (g.E.Engine.account c.vertices.engine)
    (g.E.Engine.account c.add_vertex.new.self) (AddVertex (c.from.result + 1)) c.add_vertex.result c.vertices.invariant
    (g.met.E.Engine.wrote c.vertices.engine c.add_vertex.new.self (AddVertex (c.from.result + 1)) c.add_vertex.result c.add_vertex.ensures).0).0

pub returns-in-Err-clause-job : goal.returns-in-Err-clause-job
returns-in-Err-clause-job g c =
    (stays_open (g.E.Engine.account c.args.engine.now) (g.E.Engine.account c.vertices.engine)
    (g.E.Engine.account c.add_vertex.new.self) (AddVertex (c.from.result + 1)) c.add_vertex.result c.vertices.invariant
    (g.met.E.Engine.wrote c.vertices.engine c.add_vertex.new.self (AddVertex (c.from.result + 1)) c.add_vertex.result c.add_vertex.ensures).0).1
