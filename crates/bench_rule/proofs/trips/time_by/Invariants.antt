use Rattle.cases_store.specs.Visits.{IsAtEase}
use Rattle.bench_rule.proofs.trips.time_by.Given as goal

abbrev pub invariant-rounds : goal.invariant-rounds
invariant-rounds g l = IsAtEase l.store l.pass

abbrev pub invariant-trips : goal.invariant-trips
invariant-trips g l = IsAtEase l.store l.pass
