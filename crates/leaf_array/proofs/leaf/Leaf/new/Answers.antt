use Rattle.leaf_array.proofs.NewLeafLemmas.{new-leaf}
use Rattle.leaf_array.proofs.leaf.Leaf.new.Goals as goal

pub returns : goal.returns
returns c = new-leaf c.args.low c.args.high _ _ _ c.in_ok-front.ensures c.in_ok-back.ensures c.joined.ensures
