use Rattle.std.proofs.Common.{◌≡◌, subst, sym, ◌∙◌}
use Rattle.leaf_trie.specs.Starts.{ShareHead}
use Rattle.leaf_trie.specs.Leaves.{IsKey, AreKeys, OneBegins, Removes}
use Rattle.leaf_trie.proofs.KeyLemmas.{share_none, is_there, removes, keys_left}
use Rattle.leaf_trie.proofs.trie.LeafTrie.remove_at.Goals as goal

pub remove-requires-clause-share : goal.remove-requires-clause-share
remove-requires-clause-share c =
    let key : IsKey (record { src = c.args.src; second = c.args.second }) = record { source = c.ranges.src.fits; other = c.ranges.second.fits } in
    rw c.self.invariant.0 (share_none _ c.self.inside.root.starts key c.self.invariant.1)

pub remove-requires-clause-there : goal.remove-requires-clause-there
remove-requires-clause-there c = is_there _ c.self.inside.root.starts (subst (OneBegins (record { src = c.args.src; second = c.args.second })) (sym c.self.view_is) c.requires.there)

pub invariant_of-self : goal.invariant_of-self
invariant_of-self c = (c.if-remove.ensures.0.level ∙ c.self.invariant.0, keys_left _ _ _ c.self.invariant.1 c.if-remove.ensures.0.takes)

pub returns : goal.returns
returns c =
    let key : IsKey (record { src = c.args.src; second = c.args.second }) = record { source = c.ranges.src.fits; other = c.ranges.second.fits } in
    subst (λ ss. Removes (record { src = c.args.src; second = c.args.second }) ss c.remove.new.self.starts) c.self.view_is
    (removes _ _ _ key c.self.invariant.1 c.if-remove.ensures.0.takes)
