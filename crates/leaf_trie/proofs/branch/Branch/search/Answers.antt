use Rattle.std.proofs.Common.{◌≡◌, ◌==◌, ◌+◌, ◌-◌, ◌<◌, ◌≤◌, length, Some, None, subst, refl, ap, sym, ◌∙◌, arith}
use Rattle.leaf_trie.specs.Subtree.{Subtree}
use Rattle.leaf_trie.specs.Starts.{last_leaf, ShareHead, AreCandidates}
use Rattle.leaf_trie.specs.Nodes.{IsRank}
use Rattle.leaf_trie.proofs.SearchLemmas.{alone, at_inner, at_branches, descends, found_below, found_none}
use Rattle.leaf_trie.proofs.branch.Branch.search.Goals as goal

pub returns-then-branch : goal.returns-then-branch
returns-then-branch c =
    c.down.invariant.leads _ (subst (λ (s : Subtree). AreCandidates c.args.key c.down.before s.starts (record { at = Some c.branch.inside.last; before = c.down.before })) c.branch.view_is
    (alone c.args.key c.down.before _ c.branch.inside.last (sym c.branch.invariant.1.alone ∙ c.if-branch.true) c.branch.invariant.1.ends))

pub byte_of-byte-requires : goal.byte_of-byte-requires
byte_of-byte-requires c =
    let n = at_inner c.down.branch.now _ c.branch.inside.level _ _ c.branch.inside.node c.branch.view_is c.branch.invariant.0 c.branch.invariant.1 c.if-branch.false in n.low

pub last_before-before-requires : goal.last_before-before-requires
last_before-before-requires c =
    let n = at_inner c.down.branch.now _ c.branch.inside.level _ _ c.branch.inside.node c.branch.view_is c.branch.invariant.0 c.branch.invariant.1 c.if-branch.false in
    let rank = c.rank-place.ensures _ n.inner in
    rw c.branches-branches.ensures rank.within

pub down-smaller : goal.down-smaller
down-smaller c =
    let n = at_inner c.down.branch.now _ c.branch.inside.level _ _ c.branch.inside.node c.branch.view_is c.branch.invariant.0 c.branch.invariant.1 c.if-branch.false in
    let a = at_branches c.down.branch.now _ _ c.args.key c.branches-branches.result.now n c.down.invariant.share c.branches-branches.ensures in
    let rank : IsRank c.branches-branches.result.now c.byte_of-byte.result c.rank-place.result = rw c.branches-branches.ensures (c.rank-place.ensures _ n.inner) in
    let d = descends _ _ _ c.args.key _ _ a.children a.share c.byte_of-byte.ensures rank c.in-Some.ensures.some in
    let lt : c.in-Some.child.now.level < c.down.branch.now.level = omega (arith, d.depth, n.above) in lt

pub down-preserved : goal.down-preserved
down-preserved c =
    let n = at_inner c.down.branch.now _ c.branch.inside.level _ _ c.branch.inside.node c.branch.view_is c.branch.invariant.0 c.branch.invariant.1 c.if-branch.false in
    let a = at_branches c.down.branch.now _ _ c.args.key c.branches-branches.result.now n c.down.invariant.share c.branches-branches.ensures in
    let rank : IsRank c.branches-branches.result.now c.byte_of-byte.result c.rank-place.result = rw c.branches-branches.ensures (c.rank-place.ensures _ n.inner) in
    let d = descends _ _ _ c.args.key _ _ a.children a.share c.byte_of-byte.ensures rank c.in-Some.ensures.some in
    record {
      share = rw d.depth d.share;
      leads = λ found h. c.down.invariant.leads found (rw a.starts (found_below _ _ c.args.key _ _ c.down.before _ found d c.last_before-before.ensures h));
    }

pub returns-in-None : goal.returns-in-None
returns-in-None c =
    let n = at_inner c.down.branch.now _ c.branch.inside.level _ _ c.branch.inside.node c.branch.view_is c.branch.invariant.0 c.branch.invariant.1 c.if-branch.false in
    let a = at_branches c.down.branch.now _ _ c.args.key c.branches-branches.result.now n c.down.invariant.share c.branches-branches.ensures in
    let rank : IsRank c.branches-branches.result.now c.byte_of-byte.result c.rank-place.result = rw c.branches-branches.ensures (c.rank-place.ensures _ n.inner) in
    c.down.invariant.leads _ (rw a.starts (found_none _ _ _ c.args.key _ c.down.before _ a.children a.share c.byte_of-byte.ensures rank c.in-None.ensures.none c.last_before-before.ensures))
