use Rattle.std.proofs.Common.{◌≡◌, ◌∙◌, ◌≤◌, length, take, ap, arith, slice_index_or}
use Rattle.std.specs.Prelude.{slice_get, slice_set, Some}
use Rattle.std.proofs.lemmas.Option.{slice_get-get_or}
use Rattle.std.proofs.lemmas.List.{take_all}
use Rattle.graph_model.proofs.HistoryLemmas.{get_within}
use Rattle.serial_runner.specs.declared.run.RefusedCommit.{RefusedCommit}
use Rattle.serial_runner.specs.SerialRuns.{job_anew}
use Rattle.serial_runner.proofs.AnewLemmas.{anew_none, anew_next, anew_length_there, anew_count}
use Rattle.serial_runner.proofs.run.answer_refused_of.Goals as goal

pub refused-init : goal.refused-init
refused-init c = anew_none c.args.job c.args.jobs.now

pub answer_instead-requires-clause-listed : goal.answer_instead-requires-clause-listed
answer_instead-requires-clause-listed c =
    let count = anew_count c.args.job (take c.refused.commit-index c.args.refused.now) c.args.jobs.now c.refused.jobs c.refused.invariant c.requires.listed in
    omega (arith, count, c.requires.listed)

pub answer_instead-requires-clause-answered : goal.answer_instead-requires-clause-answered
answer_instead-requires-clause-answered c = λ q there.
    let refused = c.args.refused.now in
    let i = c.refused.commit-index in
    let item : RefusedCommit = slice_index_or refused i (record { line = 0; stamp = 0 }) in
    let here : slice_get refused i ≡ Some item = slice_get-get_or refused i (record { line = 0; stamp = 0 }) c.refused-test.true in
    let a = get_within c.args.jobs.now c.args.job c.requires.listed in
    let count = anew_length_there c.args.job (take i refused) c.args.jobs.now c.refused.jobs c.refused.invariant c.requires.listed a.0 q a.1 there in
    let lt = c.requires.lines a.0 i item a.1 here in
    omega (arith, count, lt)

pub refused-preserved : goal.refused-preserved
refused-preserved c =
    let refused = c.args.refused.now in
    let i = c.refused.commit-index in
    let item : RefusedCommit = slice_index_or refused i (record { line = 0; stamp = 0 }) in
    let here : slice_get refused i ≡ Some item = slice_get-get_or refused i (record { line = 0; stamp = 0 }) c.refused-test.true in
    anew_next c.args.job refused i item c.args.jobs.now c.refused.jobs c.answer_instead.new.self here c.refused.invariant c.answer_instead.ensures

pub returns : goal.returns
returns c = λ p at.
    let refused = c.args.refused.now in
    let i = c.refused.commit-index in
    let le : length refused ≤ i = omega (arith, c.refused-test.false) in
    c.refused.invariant p at ∙ ap (λ rs. slice_set c.args.jobs.now c.args.job (job_anew rs p)) (take_all i refused le)
