use Rattle.sessions.proofs.PropLemmas.{has_none}
use Rattle.sessions.proofs.StepLemmas.{read_none}
use Rattle.sessions.proofs.session.Session.serve.Goals as goal

pub invariant_of-self : goal.invariant_of-self
invariant_of-self g c =
    let old = c.args.self.now.engine in
    let new = c.service_step.new.self in
    let did = g.met.E.Engine.serves old new c.service_step.result c.service_step.ensures in
    record {
      is = ∣ read_none g.P.SessionPlace.number _ _ (g.E.Engine.account old) (g.E.Engine.account new) did.1
          (has_none g.P.SessionPlace.number (g.E.Engine.account old) c.args.self.now.is) did.0 ∣₁;
    }
