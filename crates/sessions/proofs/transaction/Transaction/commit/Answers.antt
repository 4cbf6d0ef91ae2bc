use Rattle.sessions.proofs.PropLemmas.{has_open}
use Rattle.sessions.proofs.StepLemmas.{committed_none}
use Rattle.sessions.proofs.transaction.Transaction.commit.Goals as goal

pub invariant_of-result : goal.invariant_of-result
invariant_of-result g c =
    let account = g.E.Engine.account in
    let old = c.args.self in
    let new = c.commit-stamp.new.self in
    let did = g.met.E.Engine.commits old.engine new c.commit-stamp.result c.commit-stamp.ensures in
    record {
      is = ∣ committed_none g.P.SessionPlace.number old.begun.start _ _ (account old.engine) (account new) did.1 c.commit-stamp.result
          (has_open g.P.SessionPlace.number old.begun.start (account old.engine) old.is) did.0 ∣₁;
    }
