use Rattle.cases_workers.proofs.OpenLemmas.{IsOpenAs}
use Rattle.bench_workers.proofs.parts.scan_all.Given as goal

abbrev pub invariant-scan : goal.invariant-scan
invariant-scan g l = IsOpenAs (g.E.Engine.account l.fn.engine) (g.E.Engine.account l.engine)
