use Rattle.std.proofs.Common.{subst}
use Rattle.graph_model.specs.AccountSteps.{BeginsBy}
use Rattle.sessions.proofs.PropLemmas.{has_none}
use Rattle.sessions.proofs.StepLemmas.{begun_open, refused_none}
use Rattle.sessions.proofs.session.Session.begin.Goals as goal

pub invariant_of-result : goal.invariant_of-result
invariant_of-result g c =
    let account = g.E.Engine.account in
    let old = c.args.self.engine in
    let new = c.begin.new.self in
    let did = g.met.E.Engine.begins old new c.begin.result c.begin.ensures in
    record {
      is = ∣ begun_open g.P.SessionPlace.number _ _ (account old) (account new) did.1 c.in-Ok.begun
          (has_none g.P.SessionPlace.number (account old) c.args.self.is)
          (subst (λ r. BeginsBy (account old) r (account new)) c.in-Ok.is did.0) ∣₁;
    }

pub invariant_of-result-in-Err : goal.invariant_of-result-in-Err
invariant_of-result-in-Err g c =
    let account = g.E.Engine.account in
    let old = c.args.self.engine in
    let new = c.begin.new.self in
    let did = g.met.E.Engine.begins old new c.begin.result c.begin.ensures in
    record {
      is = ∣ refused_none g.P.SessionPlace.number _ _ (account old) (account new) did.1 c.in-Err.why
          (has_none g.P.SessionPlace.number (account old) c.args.self.is)
          (subst (λ r. BeginsBy (account old) r (account new)) c.in-Err.is did.0) ∣₁;
    }
