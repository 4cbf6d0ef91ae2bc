use Rattle.std.proofs.Common.{[], ◌∷◌, ◌++◌, ◌∙◌, ap, map, length, arith}
use Rattle.std.specs.List.{flat_map}
use Rattle.run_model.specs.Texts.{journal_text, report_text}
use Rattle.command_words.specs.Words.{report_name}
use Rattle.command_words.specs.Views.{run_request}
use Rattle.source_run.specs.JobRunner.Phases.{file_of}
use Rattle.source_run.specs.Running.{journal_of}
use Rattle.teseo_program.specs.Sinks.{report_outputs, file_output}
use Rattle.teseo_program.proofs.SinkLemmas.{report_pushed, all_results}
use Rattle.teseo_program.proofs.outputs.outputs_of.Goals as goal

pub reports-preserved : goal.reports-preserved
reports-preserved g c =
    let count = ap length c.as_slice-jobs.ensures ∙ c.requires.count in
    report_pushed report_name (λ job. job.answers) (run_request c.args.words.now).scripts c.as_slice-jobs.result.now c.reports.k [] c.index-jobs-k.result
    _ c.reports.outputs _ _ (omega (arith, c.reports-test.true, count)) count c.reports.invariant
    (c.in_ok-report_output.ensures
    ∙ (λ i. record { name = report_name (c.script_at-script.ensures i); text = report_text ((c.answers.ensures ∙ ap (λ j. j.answers) c.index-jobs-k.is) i) }))
    c.in_ok-push-2.ensures.ok

pub returns : goal.returns
returns g c =
    c.jobs.invariant
    ∙ ap (λ rest. record { name = c.args.words.now.journal.now; text = journal_text (journal_of c.args.run.now.ran) }
    ∷ (report_outputs (map report_name (run_request c.args.words.now).scripts) (map (λ job. job.answers) c.args.run.now.jobs) ++ rest))
    (all_results c.as_slice-jobs.result.now c.jobs.job-index (omega arith)
    ∙ ap (λ js. flat_map (λ files. map file_output files) (map (λ job. map file_of job.tables) js)) c.as_slice-jobs.ensures)
