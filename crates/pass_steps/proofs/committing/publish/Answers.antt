use Rattle.std.proofs.Common.{◌≡◌, ◌+◌, ◌∙◌, ap, length, sym}
use Rattle.graph_model.specs.Legal.{IsLegal}
use Rattle.store_rule.specs.StoreRelation.Keys.{changed_keys}
use Rattle.store_rule.specs.StoreRelation.Shared.{JournalState, entries}
use Rattle.store_rule.specs.StoreRelation.Steps.{committed, published_now}
use Rattle.store_rule.proofs.StoreRelation.KeyLemmas.{changed_covers}
use Rattle.store_rule.specs.RuleModel.Places.{lines}
use Rattle.store_rule.specs.RuleModel.Sight.{with_commit}
use Rattle.store_rule.proofs.RuleModel.TxnLemmas.{commit_is_published}
use Rattle.pass_steps.specs.Passes.{journal_in, state_in}
use Rattle.pass_steps.proofs.SightLemmas.{journal_is, journal_there}
use Rattle.pass_steps.proofs.StepLemmas.{stores_at}
use Rattle.pass_steps.proofs.committing.publish.Goals as goal

pub store_as-requires-clause-may : goal.store_as-requires-clause-may
store_as-requires-clause-may c heap =
    let z = c.args.store.now.accounts.config in
    let pass = c.args.pass.now in
    let seat = pass.account in
    let v = seat.me.0 in
    let st = state_in v pass.number in
    let j = c.requires.taken.0 in
    let taken = c.requires.taken.1 in
    let keys = changed_keys z.kind st.own in
    let word : length (journal_in v).commits + 1 ≡ c.args.clock + 1 =
    ap (λ (u : JournalState). length u.commits + 1) (journal_is v j taken.journal)
    ∙ ap (λ n. n + 1) (sym c.requires.taken.2) in
    stores_at z heap seat.table_id.slots seat.id seat.me _ _ _ _ (sym c.clock_place-place.ensures.place) word
    (with_commit v pass.number (committed st (journal_in v) keys) (published_now (journal_in v)))
    (IsLegal z.kind (entries (journal_in v)))
    (commit_is_published z (lines z.passes) heap seat.table_id.slots seat.id seat.me pass.number st (journal_in v) keys
    taken.of.sight.has (journal_there v j taken.journal) c.requires.stage (changed_covers z.kind st.own))
