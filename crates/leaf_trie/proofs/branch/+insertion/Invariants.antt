use Rattle.std.proofs.Common.{◌+◌, ◌*◌}
use Rattle.leaf_trie.proofs.branch.+insertion.Given as goal

abbrev pub decreases-Branch::insert : goal.decreases-Branch::insert
decreases-Branch::insert l = 4 * l.self.now.level + 3

abbrev pub decreases-Node::put : goal.decreases-Node::put
decreases-Node::put l = 4 * (l.level + 1) + 2

abbrev pub decreases-Node::put_at : goal.decreases-Node::put_at
decreases-Node::put_at l = 4 * (l.level + 1) + 1

abbrev pub decreases-put_among : goal.decreases-put_among
decreases-put_among l = 4 * (l.level + 1)
