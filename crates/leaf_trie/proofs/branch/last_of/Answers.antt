use Rattle.std.proofs.Common.{◌≡◌, ◌+◌, ◌-◌, ◌<◌, length, refl, arith}
use Rattle.std.proofs.lemmas.Option.{slice_get_read}
use Rattle.leaf_trie.proofs.SearchLemmas.{last_end}
use Rattle.leaf_trie.proofs.branch.last_of.Goals as goal

pub returns : goal.returns
returns c =
    let bs = c.args.branches.now in
    let pos : length bs ≡ length bs - 1 + 1 = omega (arith, c.requires) in
    let lt : length bs - 1 < length bs = omega (arith, pos) in
    last_end bs (length bs - 1) c.last.result _ pos (slice_get_read bs _ _ _ refl lt c.index-branches-branches.is) c.last.ensures
