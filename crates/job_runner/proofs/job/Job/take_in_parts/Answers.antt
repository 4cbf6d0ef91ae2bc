use Rattle.std.proofs.Common.{sym, ◌∙◌}
use Rattle.std.proofs.lemmas.Result.{on_ok_weaker}
use Rattle.line_runner.specs.Turns.{Calls, calls}
use Rattle.job_runner.proofs.JobLemmas.{in_parts}
use Rattle.job_runner.proofs.job.Job.take_in_parts.Goals as goal

pub run_kernel-requires-clause-kernel : goal.run_kernel-requires-clause-kernel
run_kernel-requires-clause-kernel g c κs within = λ x rest left. sym (c.is_at_kernel.ensures x rest left) ∙ c.if-is_at_kernel.true

pub returns-else-is_at_kernel-clause-ok : goal.returns-else-is_at_kernel-clause-ok
returns-else-is_at_kernel-clause-ok g c =
    let e : Calls g.row.E.Denot = calls g.E.Engine.account g.E.Engine.did_begin g.E.Engine.did_write g.E.Engine.did_read g.E.Engine.did_commit g.E.Engine.did_abort in
    on_ok_weaker c.take_turn.result
    (λ takes x rest left.
    in_parts e c.args.engine.now c.args.self.now x (sym (c.is_at_kernel.ensures x rest left) ∙ c.if-is_at_kernel.false) c.take_turn.new.self c.take_turn.new.engine (takes x rest left))
    c.take_turn.ensures.ok
