use Rattle.std.proofs.Common.{◌∙◌, length, ap}
use Rattle.std.specs.Prelude.{nat_le}
use Rattle.job_runner.specs.Progress.{Progress}
use Rattle.job_runner.proofs.JobLemmas.{over_at}
use Rattle.job_runner.proofs.job.Job.has_ended.Goals as goal

pub returns-in_default : goal.returns-in_default
returns-in_default c =
    let job = c.args.self.now in
    let fields = c.self.view_is in
    (λ i. nat_le ((c.len.ensures ∙ ap (λ (x : Progress). length x.commands) fields) i) ((c.len-in_default.ensures.len ∙ ap (λ (x : Progress). length x.answers) fields) i))
    ∙ over_at job (λ e. c.in_default.not-GivenUp (ap (λ (x : Progress). x.phase) fields ∙ e))
