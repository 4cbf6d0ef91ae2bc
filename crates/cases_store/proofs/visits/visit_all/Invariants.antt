use Rattle.cases_store.specs.Visits.{StaysAtEase}
use Rattle.cases_store.proofs.visits.visit_all.Given as goal

abbrev pub invariant-rounds : goal.invariant-rounds
invariant-rounds g l = StaysAtEase l.store l.fn.pass l.pass

abbrev pub invariant-cells : goal.invariant-cells
invariant-cells g l = StaysAtEase l.store l.fn.pass l.pass
