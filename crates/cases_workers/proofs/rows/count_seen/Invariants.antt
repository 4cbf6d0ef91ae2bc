use Rattle.cases_workers.proofs.OpenLemmas.{IsOpenAs}
use Rattle.cases_workers.proofs.rows.count_seen.Given as goal

abbrev pub invariant-vertices : goal.invariant-vertices
invariant-vertices g l = IsOpenAs (g.E.Engine.account l.fn.engine) (g.E.Engine.account l.engine)
