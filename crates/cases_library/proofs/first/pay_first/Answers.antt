use Rattle.std.proofs.Common.{length, ap, ◌∙◌}
use Rattle.std.specs.Prelude.{slice_get}
use Rattle.graph_model.proofs.PlaceLemmas.{get_end}
use Rattle.cases_library.proofs.PaymentLemmas.{in_journal}
use Rattle.cases_library.proofs.first.pay_first.Goals as goal

pub returns : goal.returns
returns g c =
    let done = c.run_one.ensures.done in
    let place = length done.rest_after in
    let there = ap (λ passes. slice_get passes place) done.is ∙ get_end done.rest_after done.back in
    λ none. in_journal _ c.close.result.journal c.run_one.new.work.stamp (c.close.ensures.seen place done.back there)
    (done.done none)
