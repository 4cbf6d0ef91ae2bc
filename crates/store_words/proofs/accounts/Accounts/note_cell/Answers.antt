use Rattle.std.proofs.Common.{ℕ, List, subst}
use Rattle.rule_model.specs.CellsModel.Cells.{CellState}
use Rattle.rule_model.specs.Sight.{no_sight}
use Rattle.store_words.specs.Notes.{IsNote}
use Rattle.store_words.proofs.NoteLemmas.{cuts_cell, only_is}
use Rattle.store_words.proofs.accounts.Accounts.note_cell.Goals as goal

pub cut_as-requires-clause-cut : goal.cut_as-requires-clause-cut
cut_as-requires-clause-cut c = cuts_cell c.args.cell c.args.seat.now.me.0

pub returns-clause-note : goal.returns-clause-note
returns-clause-note c d has =
    subst (λ (l : List (ℕ × CellState)). IsNote c.args.self.now.table.shared.table_id
    (record no_sight { cells = l }) c.cut_as.result)
    (only_is c.args.cell c.args.seat.now.me.0.cells d has) c.cut_as.ensures.right
