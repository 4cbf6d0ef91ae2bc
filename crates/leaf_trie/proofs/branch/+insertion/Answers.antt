use Rattle.std.proofs.Common.{◌≡◌, ◌≢◌, ◌+◌, ◌-◌, ◌*◌, ◌<◌, ◌≤◌, [], ◌∷◌, ◌++◌, length, Some, None, false, true, Ok, Err, set, subst, refl, ap, sym, ◌∙◌, arith, rules}
use Rattle.leaf_trie.specs.Path.{digit}
use Rattle.leaf_trie.specs.Subtree.{Subtree}
use Rattle.leaf_trie.specs.Starts.{last_leaf, Lacks, ShareHead, Puts}
use Rattle.std.specs.Prelude.{insert}
use Rattle.leaf_trie.specs.Nodes.{IsNode, IsRank, AreChildren, HasNoBranch, HasRoom, all_starts, children_of, starts_of, IsSummary}
use Rattle.leaf_trie.proofs.SearchLemmas.{at_branches, descends}
use Rattle.leaf_trie.proofs.EditLemmas.{at_put, starts_inner, inner_children, kept_summary, put_summary, puts_in_branch, puts_branch, rank_same, lacks_in_branch, has_there, bytes_set, few_puts, wide_puts}
use Rattle.leaf_trie.specs.declared.branch.Node.TheVariants.{Few, Many}
use Rattle.leaf_trie.proofs.ListLemmas.{there_within}
use Rattle.std.proofs.lemmas.Option.{slice_get_read}
use Rattle.std.proofs.lemmas.List.Edits.{length-insert}
use Rattle.std.proofs.lemmas.Result.{err_from_is_err_and}
use Rattle.leaf_trie.proofs.branch.+insertion.Goals as goal

pub Branch::insert-overflow_sub-level : goal.Branch::insert-overflow_sub-level
Branch::insert-overflow_sub-level t c =
    let a = at_put c.args.self.now _ c.self.inside.level _ c.self.inside.node c.args.start.low c.self.view_is c.self.invariant.0 c.requires.share c.requires.absent in
    let same : c.self.inside.level ≡ c.args.self.now.level = ap (λ (s : Subtree). s.level) c.self.view_is in
    omega (arith, a.above, same)

pub Branch::insert-put-requires : goal.Branch::insert-put-requires
Branch::insert-put-requires t c =
    let a = at_put c.args.self.now _ c.self.inside.level _ c.self.inside.node c.args.start.low c.self.view_is c.self.invariant.0 c.requires.share c.requires.absent in
    let b = at_branches c.args.self.now _ _ c.args.start.low (children_of c.self.inside.node) a c.requires.share refl in
    let same : c.self.inside.level ≡ c.args.self.now.level = ap (λ (s : Subtree). s.level) c.self.view_is in
    let above = a.above in
    let low = a.low in
    let node = a.inner in
    let share = b.share in
    let absent : Lacks c.args.start.low (all_starts (children_of c.self.inside.node)) = subst (Lacks c.args.start.low) a.starts c.requires.absent in
    search (rules, low, node, share, absent)

pub Branch::insert-invariant_of-self : goal.Branch::insert-invariant_of-self
Branch::insert-invariant_of-self t c =
    let a = at_put c.args.self.now _ c.self.inside.level _ c.self.inside.node c.args.start.low c.self.view_is c.self.invariant.0 c.requires.share c.requires.absent in
    let same : c.self.inside.level ≡ c.args.self.now.level = ap (λ (s : Subtree). s.level) c.self.view_is in
    let up : c.self.inside.level - 1 + 1 ≡ c.self.inside.level = omega (arith, a.above, same) in
    (subst (λ n. IsNode n c.put.new.self) up c.in_err-put.ensures.0, kept_summary c.self.inside.last _ c.self.inside.node c.put.new.self _ a.inner c.in_err-put.ensures.0 c.in_err-put.ensures.1 c.self.invariant.1)

pub Branch::insert-returns-in_err-put : goal.Branch::insert-returns-in_err-put
Branch::insert-returns-in_err-put t c =
    let a = at_put c.args.self.now _ c.self.inside.level _ c.self.inside.node c.args.start.low c.self.view_is c.self.invariant.0 c.requires.share c.requires.absent in
    let same = starts_inner c.self.inside.last _ c.put.new.self c.in_err-put.ensures.0 ∙ c.in_err-put.ensures.1 ∙ sym (starts_inner c.self.inside.last _ c.self.inside.node a.inner) in
    let p = err_from_is_err_and c.from_residual.result c.from_residual.ensures.1 in
    rw p.1 ((λ i. record { byte = c.self.inside.byte; level = c.self.inside.level; starts = same i }) ∙ c.self.view_is)

pub Branch::insert-invariant_of-self-2 : goal.Branch::insert-invariant_of-self-2
Branch::insert-invariant_of-self-2 t c =
    let a = at_put c.args.self.now _ c.self.inside.level _ c.self.inside.node c.args.start.low c.self.view_is c.self.invariant.0 c.requires.share c.requires.absent in
    let same : c.self.inside.level ≡ c.args.self.now.level = ap (λ (s : Subtree). s.level) c.self.view_is in
    let up : c.self.inside.level - 1 + 1 ≡ c.self.inside.level = omega (arith, a.above, same) in
    let some : last_leaf (all_starts (children_of c.self.inside.node)) ≡ Some c.self.inside.last = ap last_leaf (sym (starts_inner c.self.inside.last _ c.self.inside.node a.inner)) ∙ c.self.invariant.1.ends in
    let ends : last_leaf (all_starts (children_of c.put.new.self)) ≡ Some c.last_of-self-inside.result = ap (λ bs. last_leaf (all_starts bs)) (sym c.branches.ensures) ∙ c.last_of-self-inside.ensures in (
      subst (λ n. IsNode n c.put.new.self) up c.in_ok-put.ensures.0,
      rw (starts_inner c.last_of-self-inside.result _ c.put.new.self c.in_ok-put.ensures.0) (put_summary _ c.args.start _ _ c.self.inside.last some c.in_ok-put.ensures.1 ends),
    )

pub Branch::insert-returns : goal.Branch::insert-returns
Branch::insert-returns t c =
    let a = at_put c.args.self.now _ c.self.inside.level _ c.self.inside.node c.args.start.low c.self.view_is c.self.invariant.0 c.requires.share c.requires.absent in
    record {
      byte = ap (λ (s : Subtree). s.byte) c.self.view_is;
      level = ap (λ (s : Subtree). s.level) c.self.view_is;
      puts = rw (a.starts, starts_inner c.last_of-self-inside.result _ c.put.new.self c.in_ok-put.ensures.0) c.in_ok-put.ensures.1;
    }

pub Node::put-returns-in_err-make_room : goal.Node::put-returns-in_err-make_room
Node::put-returns-in_err-make_room t c =
    let p = err_from_is_err_and c.from_residual.result c.from_residual.ensures.1 in
    rw p.1 (c.in_err-make_room.ensures.node _ c.requires.node, ap all_starts c.in_err-make_room.ensures.children)

pub Node::put-put_at-requires : goal.Node::put-put_at-requires
Node::put-put_at-requires t c =
    let e = c.in_ok-make_room.ensures.children in
    let low = c.requires.low in
    let node = c.in_ok-make_room.ensures.node _ c.requires.node in
    let rank : IsRank (children_of c.make_room.new.self) (digit c.args.level c.args.start.low) c.rank-place.result = rw e (subst (λ n. IsRank (children_of c.args.self.now) n c.rank-place.result) c.byte_of-byte.ensures (c.rank-place.ensures _ c.requires.node)) in
    let room : HasRoom c.rank-place.result (digit c.args.level c.args.start.low) c.make_room.new.self = subst (λ n. HasRoom c.rank-place.result n c.make_room.new.self) c.byte_of-byte.ensures c.in_ok-make_room.ensures.room in
    let share : ShareHead (c.args.level + 1) c.args.start.low (all_starts (children_of c.make_room.new.self)) = rw e c.requires.share in
    let absent : Lacks c.args.start.low (all_starts (children_of c.make_room.new.self)) = rw e c.requires.absent in
    search (rules, low, node, rank, room, share, absent)

pub Node::put_at-put_among-requires : goal.Node::put_at-put_among-requires
Node::put_at-put_among-requires t c =
    let low = c.requires.low in
    let children : AreChildren c.args.level 0 c.in-Few.branches.items = inner_children c.args.level (Few c.in-Few.branches) (subst (IsNode (c.args.level + 1)) c.in-Few.is c.requires.node) in
    let rank : IsRank c.in-Few.branches.items (digit c.args.level c.args.start.low) c.args.place = subst (λ n. IsRank (children_of n) (digit c.args.level c.args.start.low) c.args.place) c.in-Few.is c.requires.rank in
    let share : ShareHead (c.args.level + 1) c.args.start.low (all_starts c.in-Few.branches.items) = subst (λ n. ShareHead (c.args.level + 1) c.args.start.low (all_starts (children_of n))) c.in-Few.is c.requires.share in
    let absent : Lacks c.args.start.low (all_starts c.in-Few.branches.items) = subst (λ n. Lacks c.args.start.low (all_starts (children_of n))) c.in-Few.is c.requires.absent in
    search (rules, low, children, rank, share, absent)

pub Node::put_at-put_among-requires-in-Many : goal.Node::put_at-put_among-requires-in-Many
Node::put_at-put_among-requires-in-Many t c =
    let e : c.deref_mut.result.now ≡ c.in-Many.wide.value = c.deref_mut.ensures.value in
    let low = c.requires.low in
    let children : AreChildren c.args.level 0 c.deref_mut.result.now.branches.items = rw e (inner_children c.args.level (Many c.in-Many.wide) (subst (IsNode (c.args.level + 1)) c.in-Many.is c.requires.node)) in
    let rank : IsRank c.deref_mut.result.now.branches.items (digit c.args.level c.args.start.low) c.args.place = rw e (subst (λ n. IsRank (children_of n) (digit c.args.level c.args.start.low) c.args.place) c.in-Many.is c.requires.rank) in
    let share : ShareHead (c.args.level + 1) c.args.start.low (all_starts c.deref_mut.result.now.branches.items) = rw e (subst (λ n. ShareHead (c.args.level + 1) c.args.start.low (all_starts (children_of n))) c.in-Many.is c.requires.share) in
    let absent : Lacks c.args.start.low (all_starts c.deref_mut.result.now.branches.items) = rw e (subst (λ n. Lacks c.args.start.low (all_starts (children_of n))) c.in-Many.is c.requires.absent) in
    search (rules, low, children, rank, share, absent)

pub Node::put_at-returns-in_ok-put_among-in-Few : goal.Node::put_at-returns-in_ok-put_among-in-Few
Node::put_at-returns-in_ok-put_among-in-Few t c =
    rw c.in-Few.is
    (few_puts c.args.level c.args.place c.args.start c.in-Few.branches.items c.put_among.new.branches.items c.in_ok-put_among-in-Few.field-0 (subst (IsNode (c.args.level + 1)) c.in-Few.is c.requires.node)
    (subst (HasRoom c.args.place (digit c.args.level c.args.start.low)) c.in-Few.is c.requires.room) c.in_ok-put_among-in-Few.ensures)

pub Node::put_at-returns-else-branch : goal.Node::put_at-returns-else-branch
Node::put_at-returns-else-branch t c =
    let e : c.deref_mut.result.now ≡ c.in-Many.wide.value = c.deref_mut.ensures.value in
    rw (c.in-Many.is, ← e)
    (wide_puts c.args.level c.args.place c.args.start c.deref_mut.result.now.places c.deref_mut.result.now.branches.items c.put_among-in-Many.new.branches.items c.in_ok-put_among-in-Many.field-0 c.if-branch.false
    (rw e (subst (IsNode (c.args.level + 1)) c.in-Many.is c.requires.node)) c.in_ok-put_among-in-Many.ensures)

pub put_among-insert-requires : goal.put_among-insert-requires
put_among-insert-requires t c =
    let bs = c.args.branches.now.items in
    let lt : c.args.place < length bs = there_within bs c.args.place _ c.if-has_byte.ensures.1.there in
    let has = has_there bs c.args.place _ _ c.index_mut.result.now c.if-has_byte.ensures.1 (slice_get_read bs _ _ _ refl lt c.index_mut.ensures.value) in
    let rank = subst (λ n. IsRank bs n c.args.place) (sym c.byte_of.ensures) c.requires.rank in
    let d = descends c.args.level c.byte_of.result c.args.place c.args.start.low bs _ c.requires.children c.requires.share c.byte_of.ensures rank has in
    let depth = d.depth in
    let share : ShareHead c.index_mut.result.now.level c.args.start.low c.index_mut.result.now.starts = rw d.depth d.share in
    let absent = lacks_in_branch _ _ _ bs _ d c.requires.absent in
    search (rules, depth, share, absent)

pub put_among-returns-in_ok-insert : goal.put_among-returns-in_ok-insert
put_among-returns-in_ok-insert t c =
    let bs = c.args.branches.now.items in
    let lt : c.args.place < length bs = there_within bs c.args.place _ c.if-has_byte.ensures.1.there in
    let there = slice_get_read bs _ _ _ refl lt c.index_mut.ensures.value in
    let has = has_there bs c.args.place _ _ c.index_mut.result.now c.if-has_byte.ensures.1 there in
    let rank = subst (λ n. IsRank bs n c.args.place) (sym c.byte_of.ensures) c.requires.rank in
    let d = descends c.args.level c.byte_of.result c.args.place c.args.start.low bs _ c.requires.children c.requires.share c.byte_of.ensures rank has in
    (puts_in_branch c.args.level c.byte_of.result c.args.place c.args.start bs _ c.insert.new.self c.requires.children rank has c.byte_of.ensures d c.in_ok-insert.ensures, bytes_set bs c.args.place _ c.insert.new.self there c.in_ok-insert.ensures.byte)

pub put_among-returns-in_ok-insert-2 : goal.put_among-returns-in_ok-insert-2
put_among-returns-in_ok-insert-2 t c =
    let bs = c.args.branches.now.items in
    let is : c.insert-else-has_byte.new.self.items ≡ insert bs c.args.place c.in_ok-branch.branch =
    c.in_ok-insert-2.ensures.items ∙ ap (λ xs. insert xs c.args.place c.in_ok-branch.branch) c.in_ok-reserve_exact.ensures.items in
    let rank = subst (λ n. IsRank bs n c.args.place) (sym c.byte_of.ensures) c.requires.rank in
    let p = puts_branch c.args.level c.byte_of.result c.args.place c.args.start bs c.in_ok-branch.branch c.requires.children c.requires.share rank c.if-has_byte.ensures c.byte_of.ensures
    c.in_ok-branch.ensures.level c.in_ok-branch.ensures.byte c.in_ok-branch.ensures.starts in
    (rw is p, subst (λ n. HasNoBranch bs c.args.place n) c.byte_of.ensures c.if-has_byte.ensures, rw is (length-insert bs c.args.place c.in_ok-branch.branch rank.within))
