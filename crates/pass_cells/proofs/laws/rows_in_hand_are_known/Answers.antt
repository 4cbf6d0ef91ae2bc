use Rattle.pass_cells.proofs.RoomLemmas.{rows_are_known}
use Rattle.pass_cells.proofs.laws.rows_in_hand_are_known.Goals as goal

pub returns : goal.returns
returns c = rows_are_known
