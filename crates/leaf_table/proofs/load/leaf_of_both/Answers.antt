use Rattle.std.proofs.Common.{◌-◌, ◌++◌, length, sym, ◌∙◌, subst, arith}
use Rattle.graph_model.specs.Rows.{first_key, end_key}
use Rattle.gap_segment.specs.Fenced.{AreSorted, AreWithin}
use Rattle.leaf_table.specs.Settled.{IsLeafFrom}
use Rattle.leaf_table.proofs.FillLemmas.{all_within_back, sorted_back, sorted_front}
use Rattle.leaf_table.proofs.LoadLemmas.{all_within_front, from_back, from_front, from_shown, ok_also, seen_sorted, seen_within}
use Rattle.leaf_table.proofs.load.leaf_of_both.Goals as goal

pub leaf_from-requires-clause-sorted : goal.leaf_from-requires-clause-sorted
leaf_from-requires-clause-sorted c = sorted_back c.args.front.now c.args.back.now c.requires.sorted

pub leaf_from-requires-clause-within : goal.leaf_from-requires-clause-within
leaf_from-requires-clause-within c = all_within_back first_key end_key c.args.front.now c.args.back.now c.requires.within

pub returns-then-front-at : goal.returns-then-front-at
returns-then-front-at c =
    ok_also (IsLeafFrom c.args.back.now (c.args.at - length c.args.front.now)) (IsLeafFrom (c.args.front.now ++ c.args.back.now) c.args.at)
    (λ memory. from_back c.args.front.now c.args.back.now c.args.at memory c.if-front-at.true) c.leaf_from.result c.leaf_from.ensures

pub leaf_from-requires-then-front-at-gt-FULL_LEAF-clause-sorted : goal.leaf_from-requires-then-front-at-gt-FULL_LEAF-clause-sorted
leaf_from-requires-then-front-at-gt-FULL_LEAF-clause-sorted c = sorted_front c.args.front.now c.args.back.now c.requires.sorted

pub leaf_from-requires-then-front-at-gt-FULL_LEAF-clause-within : goal.leaf_from-requires-then-front-at-gt-FULL_LEAF-clause-within
leaf_from-requires-then-front-at-gt-FULL_LEAF-clause-within c = all_within_front first_key end_key c.args.front.now c.args.back.now c.requires.within

pub returns-then-front-at-gt-FULL_LEAF : goal.returns-then-front-at-gt-FULL_LEAF
returns-then-front-at-gt-FULL_LEAF c =
    ok_also (IsLeafFrom c.args.front.now c.args.at) (IsLeafFrom (c.args.front.now ++ c.args.back.now) c.args.at)
    (λ memory. from_front c.args.front.now c.args.back.now c.args.at memory (omega (arith, c.if-front-at.false)) (omega (arith, c.if-front-at-gt-FULL_LEAF.true)))
    c.leaf_from-then-front-at-gt-FULL_LEAF.result c.leaf_from-then-front-at-gt-FULL_LEAF.ensures

pub leaf_from-requires-2-clause-sorted : goal.leaf_from-requires-2-clause-sorted
leaf_from-requires-2-clause-sorted c = subst AreSorted (sym (c.as_slice.ensures.value ∙ c.in_ok-rows.ensures)) (seen_sorted 209 c.args.at (c.args.front.now ++ c.args.back.now) c.requires.sorted)

pub leaf_from-requires-2-clause-within : goal.leaf_from-requires-2-clause-within
leaf_from-requires-2-clause-within c = subst (AreWithin first_key end_key) (sym (c.as_slice.ensures.value ∙ c.in_ok-rows.ensures)) (seen_within 209 c.args.at (c.args.front.now ++ c.args.back.now) c.requires.within)

pub returns : goal.returns
returns c =
    ok_also (IsLeafFrom c.as_slice.result.now 0) (IsLeafFrom (c.args.front.now ++ c.args.back.now) c.args.at)
    (λ memory. from_shown (c.args.front.now ++ c.args.back.now) c.as_slice.result.now c.args.at memory (c.as_slice.ensures.value ∙ c.in_ok-rows.ensures))
    c.leaf_from-2.result c.leaf_from-2.ensures
