use Rattle.row_table.proofs.TableLemmas.{place_of_found, place_of_gap}
use Rattle.row_table.proofs.rows.RowTable.first_place.Goals as goal

pub returns-in-Ok : goal.returns-in-Ok
returns-in-Ok c = rw (← c.self.view_is) (place_of_found c.self.inside.rows.rows c.args.key c.in-Ok.place c.is_fenced.ensures.fenced.sorted c.in-Ok.ensures)

pub returns-in-Err : goal.returns-in-Err
returns-in-Err c = rw (← c.self.view_is) (place_of_gap c.self.inside.rows.rows c.args.key c.in-Err.place c.in-Err.ensures)
