use Rattle.sessions.proofs.PropLemmas.{has_open}
use Rattle.sessions.proofs.StepLemmas.{aborted_none}
use Rattle.sessions.proofs.transaction.Transaction.abort.Goals as goal

pub invariant_of-result : goal.invariant_of-result
invariant_of-result g c =
    let account = g.E.Engine.account in
    let old = c.args.self in
    let new = c.abort.new.self in
    let did = g.met.E.Engine.aborts old.engine new c.abort.ensures in
    record {
      is = ∣ aborted_none g.P.SessionPlace.number old.begun.start _ _ (account old.engine) (account new) did.1
          (has_open g.P.SessionPlace.number old.begun.start (account old.engine) old.is) did.0 ∣₁;
    }
