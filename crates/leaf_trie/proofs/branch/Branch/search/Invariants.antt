use Rattle.leaf_trie.specs.declared.start.Candidates.{Candidates}
use Rattle.std.proofs.Common.{None}
use Rattle.leaf_trie.specs.Starts.{AreCandidates, ShareHead}
use Rattle.leaf_trie.proofs.branch.Branch.search.Given as goal

-- what is found below the branch is what is found below all
abbrev pub invariant-down : goal.invariant-down
invariant-down l = record {
  share : ShareHead l.branch.level l.key l.branch.starts;
  leads : (found : Candidates) → AreCandidates l.key l.before l.branch.starts found → AreCandidates l.key None l.self.starts found;
}

abbrev pub decreases-down : goal.decreases-down
decreases-down l = l.branch.level
