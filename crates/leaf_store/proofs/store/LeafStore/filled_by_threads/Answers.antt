use Rattle.std.proofs.Common.{◌++◌}
use Rattle.leaf_store.proofs.FillEndLemmas.{rising_sorted, rising_within}
use Rattle.leaf_store.proofs.store.LeafStore.filled_by_threads.Goals as goal

pub leaves_of_halves-requires-clause-sorted : goal.leaves_of_halves-requires-clause-sorted
leaves_of_halves-requires-clause-sorted g c κs within = rising_sorted (c.args.front.items ++ c.args.back.items) c.requires.rising

pub leaves_of_halves-requires-clause-within : goal.leaves_of_halves-requires-clause-within
leaves_of_halves-requires-clause-within g c κs within = rising_within (c.args.front.items ++ c.args.back.items) c.requires.rising
