use Rattle.cases_workers.proofs.OpenLemmas.{IsOpenAs}
use Rattle.bench_workers.proofs.parts.read_on.Given as goal

abbrev pub invariant-reads : goal.invariant-reads
invariant-reads g l = IsOpenAs (g.E.Engine.account l.fn.engine) (g.E.Engine.account l.engine)
