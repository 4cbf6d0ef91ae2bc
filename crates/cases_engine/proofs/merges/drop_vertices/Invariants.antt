use Rattle.std.specs.Prelude.{IsSome}
use Rattle.cases_engine.proofs.merges.drop_vertices.Given as goal

-- the transaction stays open
abbrev pub invariant-vertices : goal.invariant-vertices
invariant-vertices g l = IsSome (g.E.Engine.account l.engine).start
