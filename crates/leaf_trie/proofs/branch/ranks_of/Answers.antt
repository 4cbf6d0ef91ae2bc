use Rattle.std.proofs.Common.{◌≡◌, ◌+◌, ◌<◌, ◌≤◌, length, arith, ◌∙◌}
use Rattle.std.proofs.Math.ListN.{length-set}
use Rattle.leaf_trie.proofs.BranchLemmas.{rank_small, below_next, ranks_more}
use Rattle.leaf_trie.proofs.branch.ranks_of.Goals as goal

pub overflow_cast-places : goal.overflow_cast-places
overflow_cast-places c =
    let rank = c.rank_from-rank.ensures c.requires.0 0 c.requires.1 in
    let small = rank_small c.requires.0 0 _ _ _ c.requires.1 rank.below rank.within (omega arith) in
    omega (arith, small, c.bytes-test.true)

pub bytes-preserved : goal.bytes-preserved
bytes-preserved c =
    let bs = c.args.branches.now.items in
    let rank = c.rank_from-rank.ensures c.requires.0 0 c.requires.1 in
    let lt : c.bytes.byte < length c.bytes.places = omega (arith, c.bytes.invariant.wide, c.bytes-test.true) in
    record {
      within = rank.within;
      below = below_next _ _ rank.below;
      wide = length-set c.bytes.places c.bytes.byte c.rank_from-rank.result ∙ c.bytes.invariant.wide;
      ranks = ranks_more bs c.bytes.places c.bytes.byte c.rank_from-rank.result lt c.bytes.invariant.ranks rank;
    }
