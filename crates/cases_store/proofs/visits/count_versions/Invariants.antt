use Rattle.cases_store.specs.Visits.{StaysAtEase}
use Rattle.cases_store.proofs.visits.count_versions.Given as goal

abbrev pub invariant-cells : goal.invariant-cells
invariant-cells l = StaysAtEase l.store l.fn.pass l.pass
