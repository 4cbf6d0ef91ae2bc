use Rattle.std.proofs.Common.{◌≡◌, ◌+◌, ◌∙◌, [], ap, length, sym}
use Rattle.store_rule.specs.StoreRelation.Shared.{JournalState}
use Rattle.store_rule.specs.StoreRelation.Steps.{committing, with_entry}
use Rattle.store_rule.specs.StoreRelation.Words.{commit_word}
use Rattle.store_rule.specs.RuleModel.Places.{lines}
use Rattle.store_rule.specs.RuleModel.Sight.{with_commit}
use Rattle.store_rule.proofs.RuleModel.TxnLemmas.{stamp_is_stored}
use Rattle.pass_steps.specs.Passes.{journal_in, state_in}
use Rattle.pass_steps.proofs.SightLemmas.{journal_is, journal_there}
use Rattle.pass_steps.proofs.StepLemmas.{stores_quietly}
use Rattle.pass_steps.proofs.committing.store_stamp.Goals as goal

pub store_as-requires-clause-may : goal.store_as-requires-clause-may
store_as-requires-clause-may c heap =
    let z = c.args.store.now.accounts.config in
    let pass = c.args.pass.now in
    let seat = pass.account in
    let v = seat.me.0 in
    let st = state_in v pass.number in
    let j = c.requires.taken.0 in
    let taken = c.requires.taken.1 in
    let same = journal_is v j taken.journal in
    let none : (journal_in v).next ≡ [] = ap (λ (u : JournalState). u.next) same ∙ c.requires.taken.2 in
    let word : commit_word (length (journal_in v).commits) ≡ c.args.clock + 3 =
    ap (λ (u : JournalState). length u.commits + 3) same ∙ ap (λ n. n + 3) (sym c.requires.taken.3) in
    stores_quietly z heap seat.table_id.slots seat.id seat.me _ _ _ _ (sym c.pass_place-place.ensures.place) word
    (with_commit v pass.number (committing st) (with_entry (journal_in v) pass.number st))
    (stamp_is_stored z (lines z.passes) heap seat.table_id.slots seat.id seat.me pass.number st (journal_in v)
    taken.of.sight.has (journal_there v j taken.journal) c.requires.stage.0 c.requires.stage.1 c.requires.wrote none)
