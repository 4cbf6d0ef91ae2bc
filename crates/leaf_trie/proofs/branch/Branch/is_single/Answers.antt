use Rattle.std.proofs.Common.{◌≡◌, ◌==◌, length, ap, sym, ◌∙◌}
use Rattle.leaf_trie.specs.Subtree.{Subtree}
use Rattle.leaf_trie.specs.Starts.{last_leaf}
use Rattle.leaf_trie.proofs.branch.Branch.is_single.Goals as goal

pub returns : goal.returns
returns c = c.self.invariant.1.alone ∙ ap (λ (s : Subtree). length s.starts == 1) c.self.view_is
