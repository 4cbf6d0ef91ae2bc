use Rattle.std.proofs.Common.{ℕ, List, subst}
use Rattle.rule_model.specs.StoreRelation.Passes.{PassState}
use Rattle.rule_model.specs.Sight.{PinState, no_sight}
use Rattle.store_words.specs.Notes.{IsNote}
use Rattle.store_words.proofs.NoteLemmas.{cuts_pass, only_is}
use Rattle.store_words.proofs.accounts.Accounts.note_pass.Goals as goal

pub cut_as-requires-clause-cut : goal.cut_as-requires-clause-cut
cut_as-requires-clause-cut c = cuts_pass c.args.pass c.args.seat.now.me.0

pub returns-clause-note : goal.returns-clause-note
returns-clause-note c st x has pinned =
    let v = c.args.seat.now.me.0 in
    subst (λ (l : List (ℕ × PassState) × List (ℕ × PinState)). IsNote c.args.self.now.table.shared.table_id
    (record no_sight { passes = l.0; pins = l.1 }) c.cut_as.result)
    (λ i. (only_is c.args.pass v.passes st has i, only_is c.args.pass v.pins x pinned i))
    c.cut_as.ensures.right
