use Rattle.std.proofs.Common.{◌+◌, subst, sym}
use Rattle.graph_model.specs.declared.write.Write.TheVariants.{DropVertex}
use Rattle.cases_workers.proofs.OpenLemmas.{IsOpenAs, stays_open}
use Rattle.cases_workers.proofs.rows.remove.Goals.{then-before-ne0+in-Ok, else-before-ne0}
use Rattle.cases_workers.proofs.rows.remove.Goals as goal

pub vertices-preserved : goal.vertices-preserved
vertices-preserved g c =
    let IsOpen : g.row.E.Denot → Type 0 = λ engine. IsOpenAs (g.E.Engine.account c.args.engine.now) (g.E.Engine.account engine) in
    elim c.if-before-ne0.branch [
      | then-before-ne0+in-Ok w ↦ subst IsOpen (sym w.engine-is)
          (stays_open (g.E.Engine.account c.args.engine.now) (g.E.Engine.account c.vertices.engine)
          (g.E.Engine.account w.drop_vertex.new.self) (DropVertex (w.from.result + 1)) w.drop_vertex.result c.vertices.invariant
          (g.met.E.Engine.wrote c.vertices.engine w.drop_vertex.new.self (DropVertex (w.from.result + 1)) w.drop_vertex.result w.drop_vertex.ensures).0)
      | else-before-ne0 w ↦ subst IsOpen (sym w.engine-is) c.vertices.invariant
    ]

pub returns-in-Err-clause-current : goal.returns-in-Err-clause-current
returns-in-Err-clause-current g c =
    (stays_open (g.E.Engine.account c.args.engine.now) (g.E.Engine.account c.vertices.engine)
    (g.E.Engine.account c.drop_vertex.new.self) (DropVertex (c.from.result + 1)) c.drop_vertex.result c.vertices.invariant
    (g.met.E.Engine.wrote c.vertices.engine c.drop_vertex.new.self (DropVertex (c.from.result + 1)) c.drop_vertex.result c.drop_vertex.ensures).0).0

pub returns-in-Err-clause-job : goal.returns-in-Err-clause-job
returns-in-Err-clause-job g c =
    (stays_open (g.E.Engine.account c.args.engine.now) (g.E.Engine.account c.vertices.engine)
    (g.E.Engine.account c.drop_vertex.new.self) (DropVertex (c.from.result + 1)) c.drop_vertex.result c.vertices.invariant
    (g.met.E.Engine.wrote c.vertices.engine c.drop_vertex.new.self (DropVertex (c.from.result + 1)) c.drop_vertex.result c.drop_vertex.ensures).0).1
