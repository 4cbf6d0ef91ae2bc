use Rattle.std.proofs.Common.{refl, sym, ◌∙◌, ap, subst}
use Rattle.leaf_index.specs.Index.{Index, IsTaken}
use Rattle.leaf_store.proofs.PairLemmas.{can_cut, can_drop, dropped_is, first_begin, merged_is}
use Rattle.leaf_store.proofs.SplitLemmas.{always_err}
use Rattle.leaf_store.proofs.pair.merge_entries.Goals as goal

pub drop_leaf-requires : goal.drop_leaf-requires
drop_leaf-requires c =
    let live = c.requires.live in
    let cut = c.low-cut.ensures ∙ first_begin c.args.right.now.segments live.right _ c.index-right-0.result live.right_tied live.right_cuts in
    can_drop c.args.index.now c.args.left.now.segments c.args.right.now.segments c.args.number c.args.stamp live c.low-cut.result cut

pub retire-requires : goal.retire-requires
retire-requires c =
    let live = c.requires.live in
    let cut = c.low-cut.ensures ∙ first_begin c.args.right.now.segments live.right _ c.index-right-0.result live.right_tied live.right_cuts in
    subst (IsTaken c.drop_leaf.new.self) live.number_is
    (c.drop_leaf.ensures.taken (record { front = live.front; before = live.left; dropped = live.right; back = live.back; is = live.is; same = sym cut }))

pub set_separators-requires : goal.set_separators-requires
set_separators-requires c =
    let live = c.requires.live in
    let cut = c.low-cut.ensures ∙ first_begin c.args.right.now.segments live.right _ c.index-right-0.result live.right_tied live.right_cuts in
    let low = c.low-low.ensures ∙ first_begin c.args.left.now.segments live.left _ c.index-left-0.result live.left_tied live.left_cuts in
    let dropped = dropped_is c.args.index.now c.args.left.now.segments c.args.right.now.segments c.args.number c.args.stamp live c.low-cut.result cut c.drop_leaf.new.self.entries c.drop_leaf.ensures.entries in
    can_cut c.args.index.now c.args.left.now.segments c.args.right.now.segments c.args.number c.args.stamp live c.merge_leaves.new.left.segments c.merge_leaves.new.right.segments c.in_ok-merge_leaves.ensures.ok c.cuts_of.ensures.sound c.cuts_of.result c.cuts_of.ensures.cuts c.low-low.result low
    c.retire.new.self.entries (ap (λ (i : Index). i.entries) c.retire.ensures ∙ dropped)

pub returns-clause-ok : goal.returns-clause-ok
returns-clause-ok c = λ live.
    let cut = c.low-cut.ensures ∙ first_begin c.args.right.now.segments live.right _ c.index-right-0.result live.right_tied live.right_cuts in
    let low = c.low-low.ensures ∙ first_begin c.args.left.now.segments live.left _ c.index-left-0.result live.left_tied live.left_cuts in
    let dropped = dropped_is c.args.index.now c.args.left.now.segments c.args.right.now.segments c.args.number c.args.stamp live c.low-cut.result cut c.drop_leaf.new.self.entries c.drop_leaf.ensures.entries in
    merged_is c.args.index.now c.args.left.now.segments c.args.right.now.segments c.args.number c.args.stamp live c.merge_leaves.new.left.segments c.merge_leaves.new.right.segments c.in_ok-merge_leaves.ensures.ok c.cuts_of.ensures.sound c.cuts_of.result c.cuts_of.ensures.cuts c.low-low.result low
    c.drop_leaf.new.self c.retire.new.self c.set_separators.new.self c.drop_leaf.ensures.others dropped c.retire.ensures c.set_separators.ensures.entries c.set_separators.ensures.others

pub returns-in_err-merge_leaves-clause-err : goal.returns-in_err-merge_leaves-clause-err
returns-in_err-merge_leaves-clause-err c =
    let e = c.in_err-merge_leaves.ensures in
    always_err _ c.from_residual.result (record { same = refl; left = e.left; right = e.right })
