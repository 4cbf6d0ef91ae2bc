use Rattle.leaf_rows.proofs.HeldLemmas.{reserves}
use Rattle.leaf_rows.proofs.held.LeafRowsHeldCells.reserve.Goals as goal

pub returns-clause-reserves : goal.returns-clause-reserves
returns-clause-reserves c = rw (← c.self.view_is) (reserves c.self.inside.store c.reserve.new.self c.reserve.ensures.kept c.reserve.ensures.room)
