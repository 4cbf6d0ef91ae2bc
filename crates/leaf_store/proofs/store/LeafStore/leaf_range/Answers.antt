use Rattle.leaf_store.proofs.LeafRangeLemmas.{range_holds, range_of_leaf, range_whole, range_within}
use Rattle.leaf_store.proofs.store.LeafStore.leaf_range.Goals as goal

pub returns-clause-holds : goal.returns-clause-holds
returns-clause-holds c = range_holds c.self.inside.index c.self.inside.leaves.items c.args.self.now c.args.key c.leaf_at-range.result c.self.view_is c.self.invariant.kept c.leaf_at-range.ensures c.requires

pub returns-clause-whole : goal.returns-clause-whole
returns-clause-whole c = range_whole c.self.inside.index c.self.inside.leaves.items c.args.self.now c.args.key c.leaf_at-range.result c.self.view_is c.self.invariant.kept c.leaf_at-range.ensures

pub returns-clause-leaf : goal.returns-clause-leaf
returns-clause-leaf c = range_of_leaf c.self.inside.index c.self.inside.leaves.items c.args.self.now c.args.key c.leaf_at-range.result c.self.view_is c.self.invariant.kept c.leaf_at-range.ensures

pub returns-clause-within : goal.returns-clause-within
returns-clause-within c = range_within c.self.inside.index c.self.inside.leaves.items c.args.self.now c.args.key c.leaf_at-range.result c.self.view_is c.self.invariant.kept c.leaf_at-range.ensures
