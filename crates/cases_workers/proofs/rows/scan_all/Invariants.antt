use Rattle.cases_workers.proofs.OpenLemmas.{IsOpenAs}
use Rattle.cases_workers.proofs.rows.scan_all.Given as goal

abbrev pub invariant-scan : goal.invariant-scan
invariant-scan g l = IsOpenAs (g.E.Engine.account l.fn.engine) (g.E.Engine.account l.engine)
