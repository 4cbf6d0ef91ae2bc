use Rattle.pass_cells.proofs.WriteLemmas.{writes_have_rows}
use Rattle.pass_cells.proofs.laws.writes_have_their_rows.Goals as goal

pub returns : goal.returns
returns c = writes_have_rows
