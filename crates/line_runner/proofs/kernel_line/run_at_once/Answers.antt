use Rattle.std.proofs.Common.{◌≡◌, subst, ◌∙◌}
use Rattle.line_runner.specs.Kernels.{IsKernelImage}
use Rattle.line_runner.specs.Phases.{AnswersKernel}
use Rattle.line_runner.specs.Turns.{view_now}
use Rattle.line_runner.proofs.ViewLemmas.{kernel_image}
use Rattle.line_runner.proofs.TurnLemmas.{reads_kind}
use Rattle.line_runner.proofs.kernel_line.run_at_once.Goals as goal

pub returns-clause-answers : goal.returns-clause-answers
returns-clause-answers g c =
    let account = g.E.Engine.account c.args.engine.now in
    let view = view_now account in
    let kept = c.in_ok-kept in
    let kind : c.kind.result ≡ account.kind = c.kind.ensures ∙ reads_kind g.E.Engine.account _ (λ s t d. (g.met.E.Engine.reads s t d).0) _ _ kept.ensures.did in
    let image : IsKernelImage c.kind.result kept.kept.image view = kernel_image account c.requires.valid c.requires.current kept.kept kept.ensures.is c.kind.result kind in
    (subst (λ k. AnswersKernel k view c.args.kernel c.args.file.now c.in_ok-given.given) kind (c.in_ok-given.ensures view image), kept.ensures.did)
