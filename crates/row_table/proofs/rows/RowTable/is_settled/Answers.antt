use Rattle.std.proofs.Common.{◌∙◌, sym}
use Rattle.row_table.proofs.TableLemmas.{none_placed, all_settled}
use Rattle.row_table.proofs.rows.RowTable.is_settled.Goals as goal

pub returns : goal.returns
returns c = λ e. rw (← c.self.view_is) (all_settled c.self.inside.rows.rows _ (none_placed c.self.inside.heads.entries (sym c.is_empty.ensures ∙ e)))
