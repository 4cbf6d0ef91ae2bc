use Rattle.graph_model.specs.AccountSteps.{view_of}
use Rattle.graph_model.specs.Scans.{ScansBy}
use Rattle.sessions.proofs.PropLemmas.{has_open}
use Rattle.sessions.proofs.StepLemmas.{at_start, read_open}
use Rattle.sessions.proofs.transaction.Transaction.scan.Goals as goal

pub invariant_of-self : goal.invariant_of-self
invariant_of-self g c =
    let account = g.E.Engine.account in
    let old = c.args.self.now in
    let new = c.scan_step.new.self in
    let did = g.met.E.Engine.reads old.engine new c.scan_step.ensures.did in
    record {
      is = ∣ read_open g.P.SessionPlace.number old.begun.start _ _ (account old.engine) (account new) did.1
          (has_open g.P.SessionPlace.number old.begun.start (account old.engine) old.is) did.0 ∣₁;
    }

pub returns-clause-answer : goal.returns-clause-answer
returns-clause-answer g c =
    let account = g.E.Engine.account in
    let old = c.args.self.now in
    at_start g.P.SessionPlace.number old.begun.start (account old.engine) old.is (λ s. ScansBy (view_of (account old.engine) s) c.args.cursor.now c.scan_step.new.cursor c.scan_step.new.rows) c.scan_step.ensures.answer
