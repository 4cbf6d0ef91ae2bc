use Rattle.std.proofs.Common.{◌∙◌, ap, sym}
use Rattle.store_rule.specs.StoreRelation.Passes.{PassState}
use Rattle.pass_steps.proofs.beginning.begin.Goals as goal

pub pin-requires-clause-start : goal.pin-requires-clause-start
pin-requires-clause-start g c =
    let ok = c.in_ok-start.ensures.ok in
    (ok.0.start_is ∙ sym (ap (λ (u : PassState). u.start) ok.0.is), ok.2)
