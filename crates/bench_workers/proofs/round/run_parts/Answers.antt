use Rattle.std.proofs.Common.{arith, subst}
use Rattle.std.specs.Prelude.{slice_index_or}
use Rattle.cases_workers.specs.Cases.{StaysClosed}
use Rattle.bench_workers.proofs.RoundLemmas.{same_jobs}
use Rattle.bench_workers.proofs.round.run_parts.Goals as goal

pub returns-clause-jobs : goal.returns-clause-jobs
returns-clause-jobs g c =
    let account = g.E.Engine.account in
    let old = c.args.engines.now in
    let new = c.for_each_mut.new.s in
    same_jobs account old new (omega (arith, c.for_each_mut.auto.s)) (λ p d less.
    let at = (c.for_each_mut.ensures p d less).1 in
    subst (λ e. StaysClosed (account e) (account (slice_index_or new p d))) at.argument_is
    (subst (λ e. StaysClosed (account at.argument.now) (account e)) at.left at.call))
