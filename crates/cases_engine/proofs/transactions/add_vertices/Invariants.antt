use Rattle.cases_engine.specs.Open.{KeepsOpen}
use Rattle.cases_engine.proofs.transactions.add_vertices.Given as goal

-- the transaction stays open
abbrev pub invariant-vertices : goal.invariant-vertices
invariant-vertices g l = KeepsOpen (g.E.StepEngine.core l.initial.engine) (g.E.StepEngine.core l.engine)
