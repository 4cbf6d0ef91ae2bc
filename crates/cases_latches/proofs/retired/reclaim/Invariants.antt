use Rattle.std.proofs.Common.{◌≡◌}
use Rattle.cases_latches.proofs.retired.reclaim.Given as goal

abbrev pub invariant-passes : goal.invariant-passes
invariant-passes l = (l.pass.table_id ≡ l.fn.pass.table_id) × (l.sweep.looked ≡ l._pass)
