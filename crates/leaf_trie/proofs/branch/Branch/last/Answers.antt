use Rattle.std.proofs.Common.{◌≡◌, ◌==◌, length, ap, sym, ◌∙◌}
use Rattle.leaf_trie.specs.Subtree.{Subtree}
use Rattle.leaf_trie.specs.Starts.{last_leaf}
use Rattle.leaf_trie.proofs.branch.Branch.last.Goals as goal

pub returns : goal.returns
returns c = ap (λ (s : Subtree). last_leaf s.starts) (sym c.self.view_is) ∙ c.self.invariant.1.ends
