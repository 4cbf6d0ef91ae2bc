use Rattle.cases_kernels.proofs.CheckLemmas.{EndTo}
use Rattle.cases_kernels.proofs.checks.are_ended.Given as goal

-- the ends of the rows so far are vertices
abbrev pub invariant-rows : goal.invariant-rows
invariant-rows l = EndTo l.rows l.i
