use Rattle.std.proofs.Common.{◌≡◌, [], ◌∷◌}
use Rattle.leaf_trie.specs.Path.{digit}
use Rattle.leaf_trie.proofs.branch.chain.Given as goal

abbrev pub invariant-up : goal.invariant-up
invariant-up l = record {
  level : l.top.level ≡ l.below;
  byte : l.top.byte ≡ digit l.below l.start.low;
  starts : l.top.starts ≡ l.start ∷ [];
}
