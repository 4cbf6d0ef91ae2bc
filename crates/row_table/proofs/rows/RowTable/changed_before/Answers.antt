use Rattle.row_table.proofs.TableLemmas.{settled_rows}
use Rattle.row_table.proofs.rows.RowTable.changed_before.Goals as goal

pub returns-clause-between : goal.returns-clause-between
returns-clause-between c = rw (← c.self.view_is) (settled_rows c.self.inside.rows.rows _ _ c.args.place c.is_fenced.ensures.fenced.sorted c.last_before.ensures.between)
