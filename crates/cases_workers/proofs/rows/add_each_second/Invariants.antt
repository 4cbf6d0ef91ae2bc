use Rattle.std.proofs.Common.{◌≡◌, ◌+◌, ◌*◌}
use Rattle.cases_workers.proofs.OpenLemmas.{IsOpenAs}
use Rattle.cases_workers.proofs.rows.add_each_second.Given as goal

abbrev pub invariant-vertices : goal.invariant-vertices
invariant-vertices g l =
    IsOpenAs (g.E.Engine.account l.fn.engine) (g.E.Engine.account l.engine)
    × (l.v ≡ l.fn.case.first + 2 * l.before)
