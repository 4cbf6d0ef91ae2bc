use Rattle.std.proofs.Common.{ℕ, List, subst}
use Rattle.rule_model.specs.StoreRelation.Shared.{JournalState}
use Rattle.rule_model.specs.Sight.{no_sight}
use Rattle.store_words.specs.Notes.{IsNote}
use Rattle.store_words.proofs.NoteLemmas.{cuts_journal, only_is}
use Rattle.store_words.proofs.accounts.Accounts.note_journal.Goals as goal

pub cut_as-requires-clause-cut : goal.cut_as-requires-clause-cut
cut_as-requires-clause-cut c = cuts_journal c.args.seat.now.me.0

pub returns-clause-note : goal.returns-clause-note
returns-clause-note c j has =
    subst (λ (l : List (ℕ × JournalState)). IsNote c.args.self.now.table.shared.table_id
    (record no_sight { journals = l }) c.cut_as.result)
    (only_is 0 c.args.seat.now.me.0.journals j has) c.cut_as.ensures.right
