use Rattle.std.proofs.Common.{◌∙◌, subst, sym}
use Rattle.pass_sweeps.specs.RuleModel.Sight.{HasCell, Sight}
use Rattle.pass_sweeps.proofs.CellsModel.WordLemmas.{head_is_told}
use Rattle.pass_settles.proofs.fences.load_fences.Goals as goal

pub returns-clause-told : goal.returns-clause-told
returns-clause-told c d has spells =
    let told = head_is_told d.block d.segment spells in
    let first = c.load_key-low.ensures in
    let low = first.told d has in
    let high = c.load_key-high.ensures.told d
    (subst (λ (v : Sight). HasCell v c.args.cell d) (λ i. (sym first.same.account.me i).0) has) in
    record {
      low_is = λ i. record { src = (low.0 ∙ told.low_src) i; second = (low.1 ∙ told.low_second) i };
      high_is = λ i. record { src = (high.0 ∙ told.high_src) i; second = (high.1 ∙ told.high_second) i };
    }
