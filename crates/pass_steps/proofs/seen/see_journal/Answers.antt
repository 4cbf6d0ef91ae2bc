use Rattle.store_rule.specs.RuleModel.Places.{lines}
use Rattle.store_rule.proofs.RuleModel.TxnLemmas.{journal_is_seen}
use Rattle.pass_steps.specs.Passes.{journal_in, state_in}
use Rattle.pass_steps.proofs.SightLemmas.{journal_there}
use Rattle.pass_steps.proofs.seen.see_journal.Goals as goal

pub change-requires-clause-may : goal.change-requires-clause-may
change-requires-clause-may c heap =
    let z = c.args.store.now.accounts.config in
    let pass = c.args.pass.now in
    let seat = pass.account in
    let taken = c.requires.taken.3 in
    journal_is_seen z (lines z.passes) heap seat.table_id.slots seat.id seat.me pass.number
    (state_in seat.me.0 pass.number) (journal_in seat.me.0) taken.of.sight.has
    (journal_there seat.me.0 c.requires.taken.2 taken.journal)
