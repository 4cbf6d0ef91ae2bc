use Rattle.cases_kernels.proofs.CheckLemmas.{HaveRows}
use Rattle.cases_kernels.proofs.checks.vertices_of.Given as goal

-- the vertices so far have rows of their own
abbrev pub invariant-rows : goal.invariant-rows
invariant-rows l = HaveRows l.rows l.vertices.items
