use Rattle.leaf_rows.proofs.MergeLemmas.{settled_without_records}
use Rattle.leaf_rows.proofs.rows.LeafRows.settled_rows_have_no_records.Goals as goal

pub returns : goal.returns
returns c = λ g settled. settled_without_records c.args.self.now g (rw c.self.view_is at c.is_sound.ensures.sound) settled
