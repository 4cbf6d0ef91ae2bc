use Rattle.std.proofs.Common.{◌+◌, ◌*◌}
use Rattle.leaf_trie.specs.Nodes.{level_at}
use Rattle.leaf_trie.proofs.branch.+removal.Given as goal

abbrev pub decreases-Branch::remove : goal.decreases-Branch::remove
decreases-Branch::remove l = 3 * l.self.now.level + 2

abbrev pub decreases-Node::remove : goal.decreases-Node::remove
decreases-Node::remove l = 3 * (l.level + 1) + 1

abbrev pub decreases-remove_among : goal.decreases-remove_among
decreases-remove_among l = 3 * (level_at l.branches.now.items l.place + 1)
