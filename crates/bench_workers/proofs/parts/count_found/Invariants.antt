use Rattle.cases_workers.proofs.OpenLemmas.{IsOpenAs}
use Rattle.bench_workers.proofs.parts.count_found.Given as goal

abbrev pub invariant-edges : goal.invariant-edges
invariant-edges g l = IsOpenAs (g.E.Engine.account l.fn.engine) (g.E.Engine.account l.engine)
