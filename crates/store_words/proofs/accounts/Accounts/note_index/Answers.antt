use Rattle.std.proofs.Common.{ℕ, List, subst}
use Rattle.rule_model.specs.Sight.{IndexState, no_sight}
use Rattle.store_words.specs.Notes.{IsNote}
use Rattle.store_words.proofs.NoteLemmas.{cuts_index, only_is}
use Rattle.store_words.proofs.accounts.Accounts.note_index.Goals as goal

pub cut_as-requires-clause-cut : goal.cut_as-requires-clause-cut
cut_as-requires-clause-cut c = cuts_index c.args.seat.now.me.0

pub returns-clause-note : goal.returns-clause-note
returns-clause-note c y has =
    subst (λ (l : List (ℕ × IndexState)). IsNote c.args.self.now.table.shared.table_id
    (record no_sight { indexes = l }) c.cut_as.result)
    (only_is 0 c.args.seat.now.me.0.indexes y has) c.cut_as.ensures.right
