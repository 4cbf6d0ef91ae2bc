use Rattle.sessions.specs.Retries.{HaveMet}
use Rattle.sessions.proofs.session.Session.with_retry.Given as goal

-- each try yet has met a conflict
abbrev pub invariant-tries : goal.invariant-tries
invariant-tries g l = HaveMet g.C.TransactionBody.did g.P.SessionPlace.number l._try l.fn.change l.change
