use Rattle.leaf_store.proofs.RangeLemmas.{cut_left, drop_right, dropped_is, joined_is}
use Rattle.leaf_store.proofs.range.join_range.Goals as goal

pub drop_leaf-requires : goal.drop_leaf-requires
drop_leaf-requires c = drop_right c.args.low c.args.cuts c.args.key c.args.index.now.entries c.requires

pub set_separators-requires : goal.set_separators-requires
set_separators-requires c =
    cut_left c.args.low c.args.cuts c.args.key c.args.index.now.entries c.requires c.drop_leaf.new.self.entries
    (dropped_is c.args.low c.args.cuts c.args.key c.args.index.now.entries c.requires c.drop_leaf.new.self.entries c.drop_leaf.ensures.entries)

pub returns-clause-entries : goal.returns-clause-entries
returns-clause-entries c = λ can.
    joined_is c.args.low c.args.cuts c.args.key c.args.index.now.entries can c.drop_leaf.new.self.entries c.set_separators.new.self.entries
    (dropped_is c.args.low c.args.cuts c.args.key c.args.index.now.entries can c.drop_leaf.new.self.entries c.drop_leaf.ensures.entries) c.set_separators.ensures.entries
