use Rattle.std.proofs.Common.{◌≡◌, ◌<◌, ◌≤◌, length, refl, arith}
use Rattle.std.proofs.lemmas.Option.{slice_get_read}
use Rattle.leaf_trie.proofs.BranchLemmas.{rank_at}
use Rattle.leaf_trie.proofs.branch.rank_from.Goals as goal

pub returns-then-byte : goal.returns-then-byte
returns-then-byte c = λ level least children.
    let bs = c.args.branches.now.items in
    let lt : c.loop-place.place < length bs = omega (arith, c.loop-place-test.true, c.len-place-end.ensures) in
    rank_at level least c.args.byte c.loop-place.place bs _ children c.loop-place.invariant (slice_get_read bs _ _ _ refl lt c.index.ensures) (omega (arith, c.if-byte.true, c.byte.ensures))
