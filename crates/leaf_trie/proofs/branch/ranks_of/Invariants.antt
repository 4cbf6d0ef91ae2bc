use Rattle.std.proofs.Common.{◌≡◌, ◌<◌, ◌≤◌, ℕ, length, take, get_or}
use Rattle.std.specs.List.{AllByRecursion}
use Rattle.leaf_trie.specs.declared.branch.Branch.{Branch}
use Rattle.leaf_trie.specs.Nodes.{IsRank}
use Rattle.leaf_trie.proofs.branch.ranks_of.Given as goal

abbrev pub invariant-bytes : goal.invariant-bytes
invariant-bytes l = record {
  within : l.rank ≤ length l.branches.items;
  below : AllByRecursion (λ (b : Branch). b.byte < l.byte) (take l.rank l.branches.items);
  wide : length l.places ≡ 256;
  ranks : (byte : ℕ) → byte < l.byte → IsRank l.branches.items byte (get_or l.places byte 0);
}
