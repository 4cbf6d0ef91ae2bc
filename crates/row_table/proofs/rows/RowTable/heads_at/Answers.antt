use Rattle.std.proofs.Common.{◌∙◌, sym}
use Rattle.row_table.proofs.TableLemmas.{table_there}
use Rattle.row_table.proofs.rows.RowTable.heads_at.Goals as goal

pub returns : goal.returns
returns c =
    let at = rw (← c.self.view_is) at c.requires in
    rw (← c.self.view_is) (c.get.ensures ∙ sym (table_there c.self.inside.rows.rows _ c.args.key c.args.place c.is_fenced.ensures.fenced.sorted at))
