use Rattle.std.proofs.Common.{◌≡◌, ◌+◌, ◌-◌, ◌<◌, length, refl, arith}
use Rattle.std.proofs.lemmas.Option.{slice_get_read}
use Rattle.leaf_trie.proofs.SearchLemmas.{last_at}
use Rattle.leaf_trie.proofs.branch.last_before.Goals as goal

pub returns-else-place-eq0 : goal.returns-else-place-eq0
returns-else-place-eq0 c =
    let pos : c.args.place ≡ c.args.place - 1 + 1 = omega (arith, c.if-place-eq0.false) in
    let lt : c.args.place - 1 < length c.args.branches.now = omega (arith, pos, c.requires) in
    last_at c.args.branches.now c.args.place (c.args.place - 1) c.last.result _ c.args.earlier pos (slice_get_read c.args.branches.now _ _ _ refl lt c.index-branches-place.is) c.last.ensures
