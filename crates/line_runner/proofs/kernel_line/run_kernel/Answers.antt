use Rattle.std.proofs.Common.{◌≡◌, subst, ◌∙◌}
use Rattle.run_model.specs.declared.command.Command.TheVariants as commands
use Rattle.line_runner.specs.Kernels.{IsKernelImage}
use Rattle.line_runner.specs.Phases.{AnswersKernel}
use Rattle.line_runner.specs.Turns.{view_now, ReadsImage}
use Rattle.line_runner.proofs.ViewLemmas.{kernel_image}
use Rattle.line_runner.proofs.TurnLemmas.{reads_kind}
use Rattle.line_runner.proofs.kernel_line.run_kernel.Goals as goal

pub returns-in-Further-clause-takes : goal.returns-in-Further-clause-takes
returns-in-Further-clause-takes g c =
    let view = view_now (g.E.Engine.account c.args.engine.now) in
    let r = commands.Run c.args.kernel c.args.file.now in
    let reads = subst (ReadsImage view c.args.before r) c.in-Further.is (c.in_ok-reading.ensures.reads c.args.kernel c.args.file.now c.requires.may.reads) in
    (reads, c.in_ok-reading.ensures.did)

pub returns-in_ok-given-in-Whole-clause-takes : goal.returns-in_ok-given-in-Whole-clause-takes
returns-in_ok-given-in-Whole-clause-takes g c =
    let account = g.E.Engine.account c.args.engine.now in
    let view = view_now account in
    let kernel = c.args.kernel in
    let file = c.args.file.now in
    let r = commands.Run kernel file in
    let reads = subst (ReadsImage view c.args.before r) c.in-Whole.is (c.in_ok-reading.ensures.reads kernel file c.requires.may.reads) in
    let kind : c.kind.result ≡ account.kind = c.kind.ensures ∙ reads_kind g.E.Engine.account _ (λ s t d. (g.met.E.Engine.reads s t d).0) _ _ c.in_ok-reading.ensures.did in
    let image : IsKernelImage c.kind.result c.in-Whole.kept.image view = kernel_image account c.requires.may.valid c.requires.may.phase_is c.in-Whole.kept reads.0 c.kind.result kind in
    let answers : AnswersKernel c.kind.result view kernel file c.in_ok-given-in-Whole.given = c.in_ok-given-in-Whole.ensures view image in
    record {
      last = reads.1;
      does = (subst (λ k. AnswersKernel k view kernel file c.in_ok-given-in-Whole.given) kind answers, c.in_ok-reading.ensures.did);
    }

pub returns-in_ok-given-in-Whole-clause-kept : goal.returns-in_ok-given-in-Whole-clause-kept
returns-in_ok-given-in-Whole-clause-kept g c =
    let view = view_now (g.E.Engine.account c.args.engine.now) in
    (subst (ReadsImage view c.args.before (commands.Run c.args.kernel c.args.file.now)) c.in-Whole.is (c.in_ok-reading.ensures.reads c.args.kernel c.args.file.now c.requires.may.reads)).0
