use Rattle.std.proofs.Common.{◌≡◌, ◌∙◌, ◌+◌, ◌<◌, ◌≤◌, suc, length, take, sym, ap, subst, arith, slice_index_or}
use Rattle.std.specs.Prelude.{slice_get, slice_set, Some}
use Rattle.std.proofs.lemmas.Option.{slice_get-get_or}
use Rattle.std.proofs.lemmas.List.{take_all}
use Rattle.graph_model.proofs.HistoryLemmas.{get_within}
use Rattle.graph_model.proofs.PlaceLemmas.{some_eq}
use Rattle.job_runner.specs.Progress.{Progress}
use Rattle.serial_runner.specs.SerialRuns.{job_anew, jobs_anew}
use Rattle.serial_runner.proofs.AnewLemmas.{jobs_last, jobs_later, jobs_count}
use Rattle.serial_runner.proofs.run.answer_refused.Goals as goal

pub answer_refused_of-requires-clause-listed : goal.answer_refused_of-requires-clause-listed
answer_refused_of-requires-clause-listed c =
    let count = ap length c.checks.invariant ∙ jobs_count (take c.checks.job c.args.checks.now) c.args.jobs.now in
    omega (arith, count, c.requires.count, c.checks-test.true)

pub answer_refused_of-requires-clause-lines : goal.answer_refused_of-requires-clause-lines
answer_refused_of-requires-clause-lines c = λ p i r at e.
    let checks = c.args.checks.now in
    let jobs = c.args.jobs.now in
    let k = c.checks.job in
    let check = slice_index_or checks k c.index-checks-job.result in
    let its : slice_get checks k ≡ Some check = slice_get-get_or checks k c.index-checks-job.result c.checks-test.true in
    let a = get_within jobs k (omega (arith, c.checks-test.true, c.requires.count)) in
    let same : a.0 ≡ p = some_eq a.0 p (sym (ap (λ js. slice_get js k) c.checks.invariant ∙ jobs_later k checks jobs a.0 a.1) ∙ at) in
    subst (λ (x : Progress). r.line < length x.answers) same (c.requires.lines k check a.0 i r its a.1 (ap (λ rs. slice_get rs i) (sym c.as_slice.ensures) ∙ e))

pub checks-preserved : goal.checks-preserved
checks-preserved c =
    let checks = c.args.checks.now in
    let jobs = c.args.jobs.now in
    let k = c.checks.job in
    let check = slice_index_or checks k c.index-checks-job.result in
    let its : slice_get checks k ≡ Some check = slice_get-get_or checks k c.index-checks-job.result c.checks-test.true in
    let a = get_within jobs k (omega (arith, c.checks-test.true, c.requires.count)) in
    let one_more : suc k ≡ k + 1 = omega arith in
    c.answer_refused_of.ensures a.0 (ap (λ js. slice_get js k) c.checks.invariant ∙ jobs_later k checks jobs a.0 a.1)
    ∙ (λ i. slice_set (c.checks.invariant i) k (job_anew (c.as_slice.ensures i) a.0))
    ∙ sym (jobs_last k checks jobs check a.0 its a.1)
    ∙ ap (λ n. jobs_anew (take n checks) jobs) one_more

pub returns : goal.returns
returns c =
    let le : length c.args.checks.now ≤ c.checks.job = omega (arith, c.checks-test.false) in
    c.checks.invariant ∙ ap (λ cs. jobs_anew cs c.args.jobs.now) (take_all c.checks.job c.args.checks.now le)
