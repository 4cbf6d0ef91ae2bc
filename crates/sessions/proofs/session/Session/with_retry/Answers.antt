use Rattle.sessions.proofs.RetryLemmas.{committed_after, stopped_after}
use Rattle.sessions.proofs.session.Session.with_retry.Goals as goal

pub returns-then-not-met_conflict-clause-committed : goal.returns-then-not-met_conflict-clause-committed
returns-then-not-met_conflict-clause-committed g c =
    committed_after g.C.TransactionBody.did g.P.SessionPlace.number _ _ _ _ _ _ c.tries-test.true c.tries.invariant _
    c.try_once-next.ensures.committed

pub returns-then-not-met_conflict-clause-stopped : goal.returns-then-not-met_conflict-clause-stopped
returns-then-not-met_conflict-clause-stopped g c =
    stopped_after g.C.TransactionBody.did g.P.SessionPlace.number _ _ _ _ _ _ c.tries-test.true c.tries.invariant _
    c.if-not-met_conflict.ensures c.try_once-next.ensures.stopped
