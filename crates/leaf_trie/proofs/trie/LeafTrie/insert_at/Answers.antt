use Rattle.std.proofs.Common.{◌≡◌, subst, sym, ◌∙◌}
use Rattle.leaf_trie.specs.Starts.{ShareHead}
use Rattle.leaf_trie.specs.Leaves.{IsKey, AreKeys, NoneBegins, Inserts}
use Rattle.leaf_trie.proofs.KeyLemmas.{share_none, lacks, inserts, keys_put}
use Rattle.leaf_trie.proofs.trie.LeafTrie.insert_at.Goals as goal

pub insert-requires-clause-share : goal.insert-requires-clause-share
insert-requires-clause-share c =
    let key : IsKey (record { src = c.args.src; second = c.args.second }) = record { source = c.ranges.src.fits; other = c.ranges.second.fits } in
    rw c.self.invariant.0 (share_none _ c.self.inside.root.starts key c.self.invariant.1)

pub insert-requires-clause-absent : goal.insert-requires-clause-absent
insert-requires-clause-absent c =
    let key : IsKey (record { src = c.args.src; second = c.args.second }) = record { source = c.ranges.src.fits; other = c.ranges.second.fits } in
    lacks _ c.self.inside.root.starts key c.self.invariant.1 (subst (NoneBegins (record { src = c.args.src; second = c.args.second })) (sym c.self.view_is) c.requires)

pub invariant_of-self-2 : goal.invariant_of-self-2
invariant_of-self-2 c =
    let key : IsKey (record { src = c.args.src; second = c.args.second }) = record { source = c.ranges.src.fits; other = c.ranges.second.fits } in
    (c.in_ok-insert.ensures.level ∙ c.self.invariant.0, keys_put _ _ _ key c.self.invariant.1 c.in_ok-insert.ensures.puts)

pub returns-clause-ok : goal.returns-clause-ok
returns-clause-ok c =
    let key : IsKey (record { src = c.args.src; second = c.args.second }) = record { source = c.ranges.src.fits; other = c.ranges.second.fits } in
    subst (λ ss. Inserts (record { low = record { src = c.args.src; second = c.args.second }; leaf = c.args.leaf }) ss c.insert.new.self.starts) c.self.view_is
    (inserts _ _ _ key c.self.invariant.1 c.in_ok-insert.ensures.puts)
