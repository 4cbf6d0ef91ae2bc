use Rattle.std.proofs.Common.{arith}
use Rattle.graph_model.specs.declared.write.Write.TheVariants.{AddVertex}
use Rattle.cases_workers.proofs.OpenLemmas.{stays_open}
use Rattle.cases_workers.proofs.rows.add_each_second.Goals as goal

pub vertices-preserved : goal.vertices-preserved
vertices-preserved g c =
    let at = c.vertices.invariant.1 in (
      (stays_open (g.E.Engine.account c.args.engine.now) (g.E.Engine.account c.vertices.engine)
          (g.E.Engine.account c.add_vertex.new.self) (AddVertex c.vertices.v) c.add_vertex.result c.vertices.invariant.0
          (g.met.E.Engine.wrote c.vertices.engine c.add_vertex.new.self (AddVertex c.vertices.v) c.add_vertex.result c.add_vertex.ensures).0),
      omega arith,
    )

pub returns-in-Err-clause-current : goal.returns-in-Err-clause-current
returns-in-Err-clause-current g c =
    (stays_open (g.E.Engine.account c.args.engine.now) (g.E.Engine.account c.vertices.engine)
    (g.E.Engine.account c.add_vertex.new.self) (AddVertex c.vertices.v) c.add_vertex.result c.vertices.invariant.0
    (g.met.E.Engine.wrote c.vertices.engine c.add_vertex.new.self (AddVertex c.vertices.v) c.add_vertex.result c.add_vertex.ensures).0).0

pub returns-in-Err-clause-job : goal.returns-in-Err-clause-job
returns-in-Err-clause-job g c =
    (stays_open (g.E.Engine.account c.args.engine.now) (g.E.Engine.account c.vertices.engine)
    (g.E.Engine.account c.add_vertex.new.self) (AddVertex c.vertices.v) c.add_vertex.result c.vertices.invariant.0
    (g.met.E.Engine.wrote c.vertices.engine c.add_vertex.new.self (AddVertex c.vertices.v) c.add_vertex.result c.add_vertex.ensures).0).1
