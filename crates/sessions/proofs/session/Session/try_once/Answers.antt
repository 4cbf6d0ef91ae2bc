use Rattle.std.proofs.Common.{refl, subst}
use Rattle.sessions.proofs.PropLemmas.{has_none, has_open}
use Rattle.sessions.proofs.session.Session.try_once.Goals as goal

pub returns-in-Err-clause-stopped : goal.returns-in-Err-clause-stopped
returns-in-Err-clause-stopped g c =
    let account = g.E.Engine.account in (
      refl {a = c.args.change.now},
      account c.args.self.engine,
      has_none g.P.SessionPlace.number (account c.args.self.engine) c.args.self.is,
      c.in-Err.ensures.refused,
    )

pub returns-in-Ok-make-clause-committed : goal.returns-in-Ok-make-clause-committed
returns-in-Ok-make-clause-committed g c =
    let account = g.E.Engine.account in
    let txn = c.in-Ok.txn in
    let made = account c.make.new.txn.engine in
    record {
      made = made;
      makes = record {
        start = txn.begun.start;
        opened = account txn.engine;
        is_open = has_open g.P.SessionPlace.number txn.begun.start (account txn.engine) txn.is;
        did_so = subst (λ r. g.C.TransactionBody.did c.args.change.now (account txn.engine) r c.make.new.self made)
            c.in-Ok-make.is c.make.ensures;
      };
      commits = c.commit-session.ensures;
    }

pub returns-in-Err-make-clause-stopped : goal.returns-in-Err-make-clause-stopped
returns-in-Err-make-clause-stopped g c =
    let account = g.E.Engine.account in
    let txn = c.in-Ok.txn in
    let made = account c.make.new.txn.engine in
    record {
      made = made;
      makes = record {
        start = txn.begun.start;
        opened = account txn.engine;
        is_open = has_open g.P.SessionPlace.number txn.begun.start (account txn.engine) txn.is;
        did_so = subst (λ r. g.C.TransactionBody.did c.args.change.now (account txn.engine) r c.make.new.self made)
            c.in-Err-make.is c.make.ensures;
      };
      aborts = c.abort.ensures;
    }
