use Rattle.cases_kernels.proofs.CheckLemmas.{RiseTo}
use Rattle.cases_kernels.proofs.checks.are_storable.Given as goal

-- the rows so far rise
abbrev pub invariant-rows : goal.invariant-rows
invariant-rows l = RiseTo l.rows l.i
