-- the journal and the reports so far; then all of these, and the results of the scripts so far
use Rattle.std.proofs.Common.{◌≡◌, ◌∷◌, ◌++◌, map, take}
use Rattle.std.specs.List.{flat_map}
use Rattle.run_model.specs.Texts.{journal_text}
use Rattle.source_run.specs.JobRunner.Phases.{file_of}
use Rattle.command_words.specs.Words.{report_name}
use Rattle.command_words.specs.Views.{run_request}
use Rattle.source_run.specs.Running.{journal_of}
use Rattle.teseo_program.specs.Sinks.{report_outputs, file_output}
use Rattle.teseo_program.proofs.outputs.outputs_of.Given as goal

abbrev pub invariant-reports : goal.invariant-reports
invariant-reports g l = l.outputs ≡ record { name = l.words.journal.now; text = journal_text (journal_of l.run.ran) }
    ∷ report_outputs (map report_name (take l.k (run_request l.words).scripts)) (map (λ job. job.answers) (take l.k l.jobs))

abbrev pub invariant-jobs : goal.invariant-jobs
invariant-jobs g l = l.outputs ≡ record { name = l.words.journal.now; text = journal_text (journal_of l.run.ran) }
    ∷ report_outputs (map report_name (run_request l.words).scripts) (map (λ job. job.answers) l.run.jobs)
    ++ flat_map (λ job. map (λ t. file_output (file_of t)) job.tables) (take l.job-index l.jobs)
