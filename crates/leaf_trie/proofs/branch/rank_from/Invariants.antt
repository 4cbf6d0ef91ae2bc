use Rattle.std.proofs.Common.{◌<◌, take}
use Rattle.std.specs.List.{AllByRecursion}
use Rattle.leaf_trie.specs.declared.branch.Branch.{Branch}
use Rattle.leaf_trie.proofs.branch.rank_from.Given as goal

abbrev pub invariant-loop-place : goal.invariant-loop-place
invariant-loop-place l = AllByRecursion (λ (b : Branch). b.byte < l.byte) (take l.place l.branches.items)
