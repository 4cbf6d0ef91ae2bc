-- A child is one level below its node.
use Rattle.std.specs.Prelude.{ℕ, ◌≡◌, ◌+◌, ◌<◌, ◌≤◌, List, [], ◌∷◌, max}
use Rattle.std.proofs.Common.{arith}
use denote.Param.Weighed.{most}
use Rattle.leaf_trie.specs.declared.branch.Branch.{Branch}
use Rattle.leaf_trie.specs.declared.branch.Node.{Node}
use Rattle.leaf_trie.specs.declared.branch.Node.TheVariants.{End, Few, Many}
use Rattle.leaf_trie.specs.declared.branch.Branch.TheDeep.{deep-Node}
use Rattle.leaf_trie.specs.declared.branch.Branch.TheView.{size}
use Rattle.leaf_trie.specs.Nodes.{IsNode, AreChildren}

children_fall : (level least : ℕ) (bs : List Branch) → AreChildren level least bs
    → most (λ b. size b + 1) bs ≤ level + 1
children_fall level least [] h = omega arith
children_fall level least (b ∷ bs) h = omega (arith, h.0.depth, children_fall level (b.byte + 1) bs h.1)

pub level_falls : (level : ℕ) (n : Node) → IsNode level n → max (deep-Node n) 0 ≤ level
level_falls level (End low) h = omega arith
level_falls level (Few bs) h = omega (arith, h.0.is, children_fall h.0.level 0 bs.items h.0.children)
level_falls level (Many w) h = omega (arith, h.0.is, children_fall h.0.level 0 w.value.branches.items h.0.children)
