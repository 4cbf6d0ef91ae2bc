use Rattle.std.proofs.Common.{subst}
use Rattle.shared_store.specs.Ends.{AreIdle}
use Rattle.cases_shared.proofs.case.run_by_first.Goals as goal

pub run_with_next-requires-clause-passes : goal.run_with_next-requires-clause-passes
run_with_next-requires-clause-passes g c =
    subst (AreIdle c.args.store.now) c.in-Some.ensures.cases.0 c.requires.passes
