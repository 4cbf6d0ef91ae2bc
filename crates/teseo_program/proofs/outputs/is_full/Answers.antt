use Rattle.std.proofs.Common.{◌<◌, length, get_or, ◌∙◌, sym, ap, subst}
use Rattle.std.specs.List.{list_any}
use Rattle.teseo_program.specs.Outcomes.{is_full}
use Rattle.teseo_program.proofs.SinkLemmas.{any_at}
use Rattle.teseo_program.proofs.outputs.is_full.Goals as goal

pub returns-then-is_full_report : goal.returns-then-is_full_report
returns-then-is_full_report c =
    sym (any_at (list_any is_full) (λ job. job.answers) c.args.run.now.jobs c.jobs.job-index c.job-item.result
    (subst (λ js. c.jobs.job-index < length js) c.as_slice-job-items.ensures c.jobs-test.true)
    (ap (λ js. list_any is_full (get_or js c.jobs.job-index c.job-item.result).answers) (sym c.as_slice-job-items.ensures)
    ∙ ap (λ j. list_any is_full j.answers) (sym c.job-item.is) ∙ ap (list_any is_full) (sym c.answers.ensures) ∙ sym c.if-is_full_report.ensures))
