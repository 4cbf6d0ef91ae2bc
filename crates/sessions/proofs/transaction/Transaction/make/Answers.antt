use Rattle.std.proofs.Common.{subst, sym}
use Rattle.graph_model.specs.declared.write.Write.TheVariants.{AddVertex, DropVertex, AddEdge, SetEdge, DropEdge}
use Rattle.graph_model.specs.AccountSteps.{WritesAt}
use Rattle.graph_model.specs.Refused.{IsWithinLimits}
use Rattle.sessions.proofs.PropLemmas.{has_open}
use Rattle.sessions.proofs.StepLemmas.{at_start, start_there, wrote_open}
use Rattle.sessions.proofs.transaction.Transaction.make.Goals as goal

pub invariant_of-self : goal.invariant_of-self
invariant_of-self g c =
    let account = g.E.Engine.account in
    let old = c.args.self.now in
    let new = c.add_vertex.new.self in
    let did = g.met.E.Engine.wrote old.engine new (AddVertex c.in-AddVertex.v) c.add_vertex.result c.add_vertex.ensures in
    record {
      is = ∣ wrote_open g.P.SessionPlace.number old.begun.start _ _ (account old.engine) (account new) did.1 (AddVertex c.in-AddVertex.v) c.add_vertex.result
          (subst IsWithinLimits c.in-AddVertex.is c.requires.within)
          (has_open g.P.SessionPlace.number old.begun.start (account old.engine) old.is) did.0 ∣₁;
    }

pub returns-in-AddVertex-clause-writes : goal.returns-in-AddVertex-clause-writes
returns-in-AddVertex-clause-writes g c =
    let account = g.E.Engine.account in
    let old = c.args.self.now in
    let new = c.add_vertex.new.self in
    let did = g.met.E.Engine.wrote old.engine new (AddVertex c.in-AddVertex.v) c.add_vertex.result c.add_vertex.ensures in
    subst (λ w. WritesAt (account old.engine) old.begun.start w c.add_vertex.result (account new)) (sym c.in-AddVertex.is)
    (at_start g.P.SessionPlace.number old.begun.start (account old.engine) old.is
    (λ s. WritesAt (account old.engine) s (AddVertex c.in-AddVertex.v) c.add_vertex.result (account new)) did.0)

pub drop_vertex-requires-clause-current : goal.drop_vertex-requires-clause-current
drop_vertex-requires-clause-current g c =
    start_there g.P.SessionPlace.number c.args.self.now.begun.start (g.E.Engine.account c.args.self.now.engine) c.args.self.now.is

pub invariant_of-self-in-DropVertex : goal.invariant_of-self-in-DropVertex
invariant_of-self-in-DropVertex g c =
    let account = g.E.Engine.account in
    let old = c.args.self.now in
    let new = c.drop_vertex.new.self in
    let did = g.met.E.Engine.wrote old.engine new (DropVertex c.in-DropVertex.v) c.drop_vertex.result c.drop_vertex.ensures in
    record {
      is = ∣ wrote_open g.P.SessionPlace.number old.begun.start _ _ (account old.engine) (account new) did.1 (DropVertex c.in-DropVertex.v) c.drop_vertex.result
          (subst IsWithinLimits c.in-DropVertex.is c.requires.within)
          (has_open g.P.SessionPlace.number old.begun.start (account old.engine) old.is) did.0 ∣₁;
    }

pub returns-in-DropVertex-clause-writes : goal.returns-in-DropVertex-clause-writes
returns-in-DropVertex-clause-writes g c =
    let account = g.E.Engine.account in
    let old = c.args.self.now in
    let new = c.drop_vertex.new.self in
    let did = g.met.E.Engine.wrote old.engine new (DropVertex c.in-DropVertex.v) c.drop_vertex.result c.drop_vertex.ensures in
    subst (λ w. WritesAt (account old.engine) old.begun.start w c.drop_vertex.result (account new)) (sym c.in-DropVertex.is)
    (at_start g.P.SessionPlace.number old.begun.start (account old.engine) old.is
    (λ s. WritesAt (account old.engine) s (DropVertex c.in-DropVertex.v) c.drop_vertex.result (account new)) did.0)

pub add_edge-requires-clause-current : goal.add_edge-requires-clause-current
add_edge-requires-clause-current g c =
    start_there g.P.SessionPlace.number c.args.self.now.begun.start (g.E.Engine.account c.args.self.now.engine) c.args.self.now.is

pub invariant_of-self-in-AddEdge : goal.invariant_of-self-in-AddEdge
invariant_of-self-in-AddEdge g c =
    let account = g.E.Engine.account in
    let old = c.args.self.now in
    let new = c.add_edge.new.self in
    let did = g.met.E.Engine.wrote old.engine new (AddEdge c.in-AddEdge.u c.in-AddEdge.v c.in-AddEdge.weight) c.add_edge.result c.add_edge.ensures in
    record {
      is = ∣ wrote_open g.P.SessionPlace.number old.begun.start _ _ (account old.engine) (account new) did.1 (AddEdge c.in-AddEdge.u c.in-AddEdge.v c.in-AddEdge.weight) c.add_edge.result
          (subst IsWithinLimits c.in-AddEdge.is c.requires.within)
          (has_open g.P.SessionPlace.number old.begun.start (account old.engine) old.is) did.0 ∣₁;
    }

pub returns-in-AddEdge-clause-writes : goal.returns-in-AddEdge-clause-writes
returns-in-AddEdge-clause-writes g c =
    let account = g.E.Engine.account in
    let old = c.args.self.now in
    let new = c.add_edge.new.self in
    let did = g.met.E.Engine.wrote old.engine new (AddEdge c.in-AddEdge.u c.in-AddEdge.v c.in-AddEdge.weight) c.add_edge.result c.add_edge.ensures in
    subst (λ w. WritesAt (account old.engine) old.begun.start w c.add_edge.result (account new)) (sym c.in-AddEdge.is)
    (at_start g.P.SessionPlace.number old.begun.start (account old.engine) old.is
    (λ s. WritesAt (account old.engine) s (AddEdge c.in-AddEdge.u c.in-AddEdge.v c.in-AddEdge.weight) c.add_edge.result (account new)) did.0)

pub set_edge-requires-clause-current : goal.set_edge-requires-clause-current
set_edge-requires-clause-current g c =
    start_there g.P.SessionPlace.number c.args.self.now.begun.start (g.E.Engine.account c.args.self.now.engine) c.args.self.now.is

pub invariant_of-self-in-SetEdge : goal.invariant_of-self-in-SetEdge
invariant_of-self-in-SetEdge g c =
    let account = g.E.Engine.account in
    let old = c.args.self.now in
    let new = c.set_edge.new.self in
    let did = g.met.E.Engine.wrote old.engine new (SetEdge c.in-SetEdge.u c.in-SetEdge.v c.in-SetEdge.weight) c.set_edge.result c.set_edge.ensures in
    record {
      is = ∣ wrote_open g.P.SessionPlace.number old.begun.start _ _ (account old.engine) (account new) did.1 (SetEdge c.in-SetEdge.u c.in-SetEdge.v c.in-SetEdge.weight) c.set_edge.result
          (subst IsWithinLimits c.in-SetEdge.is c.requires.within)
          (has_open g.P.SessionPlace.number old.begun.start (account old.engine) old.is) did.0 ∣₁;
    }

pub returns-in-SetEdge-clause-writes : goal.returns-in-SetEdge-clause-writes
returns-in-SetEdge-clause-writes g c =
    let account = g.E.Engine.account in
    let old = c.args.self.now in
    let new = c.set_edge.new.self in
    let did = g.met.E.Engine.wrote old.engine new (SetEdge c.in-SetEdge.u c.in-SetEdge.v c.in-SetEdge.weight) c.set_edge.result c.set_edge.ensures in
    subst (λ w. WritesAt (account old.engine) old.begun.start w c.set_edge.result (account new)) (sym c.in-SetEdge.is)
    (at_start g.P.SessionPlace.number old.begun.start (account old.engine) old.is
    (λ s. WritesAt (account old.engine) s (SetEdge c.in-SetEdge.u c.in-SetEdge.v c.in-SetEdge.weight) c.set_edge.result (account new)) did.0)

pub drop_edge-requires-clause-current : goal.drop_edge-requires-clause-current
drop_edge-requires-clause-current g c =
    start_there g.P.SessionPlace.number c.args.self.now.begun.start (g.E.Engine.account c.args.self.now.engine) c.args.self.now.is

pub invariant_of-self-in-DropEdge : goal.invariant_of-self-in-DropEdge
invariant_of-self-in-DropEdge g c =
    let account = g.E.Engine.account in
    let old = c.args.self.now in
    let new = c.drop_edge.new.self in
    let did = g.met.E.Engine.wrote old.engine new (DropEdge c.in-DropEdge.u c.in-DropEdge.v) c.drop_edge.result c.drop_edge.ensures in
    record {
      is = ∣ wrote_open g.P.SessionPlace.number old.begun.start _ _ (account old.engine) (account new) did.1 (DropEdge c.in-DropEdge.u c.in-DropEdge.v) c.drop_edge.result
          (subst IsWithinLimits c.in-DropEdge.is c.requires.within)
          (has_open g.P.SessionPlace.number old.begun.start (account old.engine) old.is) did.0 ∣₁;
    }

pub returns-in-DropEdge-clause-writes : goal.returns-in-DropEdge-clause-writes
returns-in-DropEdge-clause-writes g c =
    let account = g.E.Engine.account in
    let old = c.args.self.now in
    let new = c.drop_edge.new.self in
    let did = g.met.E.Engine.wrote old.engine new (DropEdge c.in-DropEdge.u c.in-DropEdge.v) c.drop_edge.result c.drop_edge.ensures in
    subst (λ w. WritesAt (account old.engine) old.begun.start w c.drop_edge.result (account new)) (sym c.in-DropEdge.is)
    (at_start g.P.SessionPlace.number old.begun.start (account old.engine) old.is
    (λ s. WritesAt (account old.engine) s (DropEdge c.in-DropEdge.u c.in-DropEdge.v) c.drop_edge.result (account new)) did.0)
