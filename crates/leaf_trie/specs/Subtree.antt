-- What contracts see of a subtree.
use Rattle.std.specs.Prelude.{ℕ, List}
use Rattle.leaf_trie.specs.declared.start.LeafStart.{LeafStart}

-- the byte that leads to it, how many bytes are still to be read below, and its leaves in the order of their keys
pub record Subtree : Type 0 where
  pub byte : ℕ
  pub level : ℕ
  pub starts : List LeafStart
