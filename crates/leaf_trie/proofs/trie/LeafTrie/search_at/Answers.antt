use Rattle.std.proofs.Common.{◌≡◌, subst, sym}
use Rattle.leaf_trie.specs.Starts.{ShareHead}
use Rattle.leaf_trie.specs.Leaves.{IsKey, Finds}
use Rattle.leaf_trie.proofs.KeyLemmas.{share_none, finds}
use Rattle.leaf_trie.proofs.trie.LeafTrie.search_at.Goals as goal

pub search-requires : goal.search-requires
search-requires c =
    let key : IsKey (record { src = c.args.src; second = c.args.second }) = record { source = c.ranges.src.fits; other = c.ranges.second.fits } in
    rw c.self.invariant.0 (share_none _ c.self.inside.root.starts key c.self.invariant.1)

pub returns : goal.returns
returns c =
    let key : IsKey (record { src = c.args.src; second = c.args.second }) = record { source = c.ranges.src.fits; other = c.ranges.second.fits } in
    subst (λ ss. Finds (record { src = c.args.src; second = c.args.second }) ss c.search.result) c.self.view_is (finds _ c.self.inside.root.starts c.search.result key c.self.invariant.1 c.search.ensures)
