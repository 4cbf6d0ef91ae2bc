use Rattle.std.proofs.Common.{◌≡◌, length}
use Rattle.cases_latches.proofs.counting.zeros.Given as goal

abbrev pub invariant-counters : goal.invariant-counters
invariant-counters l = length l.counters.items ≡ l._counter
