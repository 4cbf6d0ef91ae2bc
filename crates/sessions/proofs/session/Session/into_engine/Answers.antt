use Rattle.sessions.proofs.PropLemmas.{has_none}
use Rattle.sessions.proofs.session.Session.into_engine.Goals as goal

pub returns-clause-none : goal.returns-clause-none
returns-clause-none g c = has_none g.P.SessionPlace.number (g.E.Engine.account c.args.self.engine) c.args.self.is
