use Rattle.std.proofs.Common.{refl, subst, sym}
use Rattle.std.specs.Prelude.{◌≤◌}
use Rattle.store_rule.specs.StoreRelation.Shared.{JournalState}
use Rattle.store_rule.specs.StoreRelation.Steps.{begun}
use Rattle.store_rule.specs.RuleModel.Places.{lines}
use Rattle.store_rule.specs.RuleModel.Sight.{with_pass}
use Rattle.store_rule.proofs.RuleModel.TxnLemmas.{transaction_begins}
use Rattle.pass_steps.specs.Passes.{journal_in, pin_in, state_in}
use Rattle.pass_steps.proofs.SightLemmas.{journal_is, journal_there}
use Rattle.pass_steps.proofs.StepLemmas.{stores_quietly}
use Rattle.pass_steps.proofs.beginning.store_open.Goals as goal

pub store_as-requires-clause-may : goal.store_as-requires-clause-may
store_as-requires-clause-may c heap =
    let z = c.args.store.now.accounts.config in
    let pass = c.args.pass.now in
    let seat = pass.account in
    let v = seat.me.0 in
    let st = state_in v pass.number in
    let x = pin_in v pass.number in
    let j = c.requires.taken.0 in
    let taken = c.requires.taken.1 in
    let room = subst (λ (u : JournalState). z.passes ≤ u.room) (sym (journal_is v j taken.journal)) c.requires.taken.2 in
    stores_quietly z heap seat.table_id.slots seat.id seat.me _ _ _ _ (sym c.pass_place-place.ensures.place) refl
    (with_pass v pass.number (begun st (journal_in v)))
    (transaction_begins z (lines z.passes) heap seat.table_id.slots seat.id seat.me pass.number st x (journal_in v)
    taken.of.sight.has taken.of.sight.pin (journal_there v j taken.journal) c.requires.stage.0 c.requires.stage.1
    taken.of.inside c.requires.more room c.requires.pin.0 c.requires.pin.1)
