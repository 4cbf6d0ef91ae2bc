use Rattle.std.proofs.Common.{◌≡◌, ◌≢◌, ◌+◌, ◌-◌, ◌*◌, ◌<◌, ◌≤◌, length, Some, None, false, true, set, subst, refl, ap, sym, ◌∙◌, arith, rules}
use Rattle.leaf_trie.specs.Path.{digit}
use Rattle.leaf_trie.specs.Subtree.{Subtree}
use Rattle.leaf_trie.specs.Starts.{IsThere, ShareHead, Takes}
use Rattle.leaf_trie.specs.Nodes.{IsNode, IsInner, IsRank, HasRanks, AreChildren, CanTake, TakesAmong, all_starts, children_of, level_at}
use Rattle.std.specs.Prelude.{remove}
use Rattle.leaf_trie.specs.declared.branch.Node.TheVariants.{Few, Many}
use Rattle.std.proofs.lemmas.Option.{slice_get_read}
use Rattle.leaf_trie.proofs.EditLemmas.{inner_children, bytes_set}
use Rattle.leaf_trie.proofs.RemovalLemmas.{at_branch, place_within, level_there, depth_there, set_same, length_remove, takes_in_branch, takes_branch, inner_left, few_takes, wide_takes}
use Rattle.leaf_trie.proofs.branch.+removal.Goals as goal

pub Node::remove-remove_among-requires : goal.Node::remove-remove_among-requires
Node::remove-remove_among-requires t c =
    let bs = c.in-Few.branches.items in
    let rank = subst (λ n. IsRank (children_of c.args.self.now) n c.rank-place.result) c.byte_of.ensures (c.rank-place.ensures _ c.requires.node) in
    let can : CanTake bs c.rank-place.result c.args.low = record {
      level = c.args.level;
      children = inner_children c.args.level (Few c.in-Few.branches) (subst (IsNode (c.args.level + 1)) c.in-Few.is c.requires.node);
      rank = subst (λ n. IsRank (children_of n) (digit c.args.level c.args.low) c.rank-place.result) c.in-Few.is rank;
      share = subst (λ n. ShareHead (c.args.level + 1) c.args.low (all_starts (children_of n))) c.in-Few.is c.requires.share;
      there = subst (λ n. IsThere c.args.low (all_starts (children_of n))) c.in-Few.is c.requires.there;
    } in
    let depth = depth_there bs c.rank-place.result c.args.low can in
    search (rules, depth, can)

pub Node::remove-remove_among-requires-in-Many : goal.Node::remove-remove_among-requires-in-Many
Node::remove-remove_among-requires-in-Many t c =
    let e : c.deref_mut.result.now ≡ c.in-Many.wide.value = c.deref_mut.ensures.value in
    let bs = c.deref_mut.result.now.branches.items in
    let rank = subst (λ n. IsRank (children_of c.args.self.now) n c.rank-place.result) c.byte_of.ensures (c.rank-place.ensures _ c.requires.node) in
    let children : AreChildren c.args.level 0 bs = rw e (inner_children c.args.level (Many c.in-Many.wide) (subst (IsNode (c.args.level + 1)) c.in-Many.is c.requires.node)) in
    let rank' : IsRank bs (digit c.args.level c.args.low) c.rank-place.result = rw e (subst (λ n. IsRank (children_of n) (digit c.args.level c.args.low) c.rank-place.result) c.in-Many.is rank) in
    let share : ShareHead (c.args.level + 1) c.args.low (all_starts bs) = rw e (subst (λ n. ShareHead (c.args.level + 1) c.args.low (all_starts (children_of n))) c.in-Many.is c.requires.share) in
    let there : IsThere c.args.low (all_starts bs) = rw e (subst (λ n. IsThere c.args.low (all_starts (children_of n))) c.in-Many.is c.requires.there) in
    let can : CanTake bs c.rank-place.result c.args.low = record { level = c.args.level; children = children; rank = rank'; share = share; there = there } in
    let depth = depth_there bs c.rank-place.result c.args.low can in
    search (rules, depth, can)

pub Node::remove-returns-in-Few-clause-node : goal.Node::remove-returns-in-Few-clause-node
Node::remove-returns-in-Few-clause-node t c =
    few_takes c.args.level c.args.low c.in-Few.branches.items c.remove_among.new.branches.items c.remove_among.result (subst (IsNode (c.args.level + 1)) c.in-Few.is c.requires.node)
    (subst (λ n. 2 ≤ length (all_starts (children_of n))) c.in-Few.is c.requires.more) c.remove_among.ensures

pub Node::remove-returns-then-remove_among-clause-node : goal.Node::remove-returns-then-remove_among-clause-node
Node::remove-returns-then-remove_among-clause-node t c =
    let e : c.deref_mut.result.now ≡ c.in-Many.wide.value = c.deref_mut.ensures.value in
    let old : IsNode (c.args.level + 1) (Many c.in-Many.wide) = subst (IsNode (c.args.level + 1)) c.in-Many.is c.requires.node in
    let inner : IsInner (c.args.level + 1) c.deref_mut.result.now.branches.items = rw e old.0 in
    let more : 2 ≤ length (all_starts c.deref_mut.result.now.branches.items) = rw e (subst (λ n. 2 ≤ length (all_starts (children_of n))) c.in-Many.is c.requires.more) in
    let ranks : HasRanks c.ranks_of.result c.remove_among-in-Many.new.branches.items = rw c.deref.ensures at c.ranks_of.ensures in
    rw c.deref_mut-then-remove_among.ensures.value (inner_left c.args.level c.args.low c.deref_mut.result.now.branches.items c.remove_among-in-Many.new.branches.items inner more c.if-remove_among.ensures.0, ranks)

pub Node::remove-returns-else-remove_among-clause-node : goal.Node::remove-returns-else-remove_among-clause-node
Node::remove-returns-else-remove_among-clause-node t c =
    let e : c.deref_mut.result.now ≡ c.in-Many.wide.value = c.deref_mut.ensures.value in
    wide_takes c.args.level c.args.low c.deref_mut.result.now.places c.deref_mut.result.now.branches.items c.remove_among-in-Many.new.branches.items
    (rw e (subst (IsNode (c.args.level + 1)) c.in-Many.is c.requires.node)) (rw e (subst (λ n. 2 ≤ length (all_starts (children_of n))) c.in-Many.is c.requires.more)) c.if-remove_among.ensures

pub remove_among-index_mut-requires : goal.remove_among-index_mut-requires
remove_among-index_mut-requires t c = omega (arith, place_within c.args.branches.now.items c.args.place c.args.low c.requires)

pub remove_among-remove-requires : goal.remove_among-remove-requires
remove_among-remove-requires t c =
    let bs = c.args.branches.now.items in
    let there = slice_get_read bs _ c.args.place c.index_mut.result.now refl (place_within bs c.args.place c.args.low c.requires) c.index_mut.ensures.value in
    let a = at_branch bs c.args.place c.args.low c.index_mut.result.now c.requires there in
    let depth = level_there bs c.args.place c.index_mut.result.now there in
    let share : ShareHead c.index_mut.result.now.level c.args.low c.index_mut.result.now.starts = rw a.way.depth a.way.share in
    let leaf = a.there in
    search (rules, depth, share, leaf)

pub remove_among-remove-requires-then-remove : goal.remove_among-remove-requires-then-remove
remove_among-remove-requires-then-remove t c = omega (arith, place_within c.args.branches.now.items c.args.place c.args.low c.requires)

pub remove_among-returns-then-remove : goal.remove_among-returns-then-remove
remove_among-returns-then-remove t c =
    let bs = c.args.branches.now.items in
    let there = slice_get_read bs _ c.args.place c.index_mut.result.now refl (place_within bs c.args.place c.args.low c.requires) c.index_mut.ensures.value in
    let a = at_branch bs c.args.place c.args.low c.index_mut.result.now c.requires there in
    let is : c.remove-then-remove.new.self.items ≡ remove bs c.args.place = c.remove-then-remove.ensures.items ∙ ap (λ xs. remove xs c.args.place) (set_same bs c.args.place c.index_mut.result.now c.remove.new.self there c.if-remove.ensures.0) in
    (rw is (takes_branch bs c.args.place _ c.args.low c.index_mut.result.now a c.if-remove.ensures.1), rw is (length_remove bs c.args.place))

pub remove_among-returns-else-remove : goal.remove_among-returns-else-remove
remove_among-returns-else-remove t c =
    let bs = c.args.branches.now.items in
    let there = slice_get_read bs _ c.args.place c.index_mut.result.now refl (place_within bs c.args.place c.args.low c.requires) c.index_mut.ensures.value in
    let a = at_branch bs c.args.place c.args.low c.index_mut.result.now c.requires there in
    (takes_in_branch bs c.args.place _ c.args.low c.index_mut.result.now c.remove.new.self a c.if-remove.ensures.0 c.if-remove.ensures.1, bytes_set bs c.args.place c.index_mut.result.now c.remove.new.self there c.if-remove.ensures.0.byte)
