use Rattle.leaf_store.proofs.FillEndLemmas.{rising_sorted, rising_within}
use Rattle.leaf_store.proofs.store.LeafStore.filled.Goals as goal

pub leaves_of-requires-clause-sorted : goal.leaves_of-requires-clause-sorted
leaves_of-requires-clause-sorted c = rising_sorted c.args.rows.now c.requires.rising

pub leaves_of-requires-clause-within : goal.leaves_of-requires-clause-within
leaves_of-requires-clause-within c = rising_within c.args.rows.now c.requires.rising
