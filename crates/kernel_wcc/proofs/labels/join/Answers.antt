use Rattle.std.proofs.Common.{refl, arith}
use Rattle.std.proofs.lemmas.List.{get_or_read}
use Rattle.kernel_wcc.proofs.LabelLemmas.{below_other, joining_none, joining_back, joined_root, joining_more}
use Rattle.kernel_wcc.proofs.labels.join.Goals as goal

pub steps-init : goal.steps-init
steps-init c = joining_none c.args.labels.now.items c.args.a c.args.b c.requires.low c.requires.within.0 c.requires.within.1

pub returns-then-right-of_right : goal.returns-then-right-of_right
returns-then-right-of_right c = joined_root c.args.labels.now.items c.args.a c.args.b c.steps.right c.steps.left c.steps.labels.items (joining_back c.args.labels.now.items c.args.a c.args.b c.steps.left c.steps.right c.steps.labels.items c.steps.invariant) c.index-of_right.result.now c.index-of_left.result.now (get_or_read c.steps.labels.items c.steps.right c.index-of_right.result.now c.steps.invariant.right c.index-of_right.ensures 0) (get_or_read c.steps.labels.items c.steps.left c.index-of_left.result.now c.steps.invariant.left c.index-of_left.ensures 0) c.if-of_left-of_right-2.true c.steps.right refl c.if-right-of_right.true

pub steps-smaller-then-of_left-of_right-2 : goal.steps-smaller-then-of_left-of_right-2
steps-smaller-then-of_left-of_right-2 c = let lower = (joining_more c.args.labels.now.items c.args.a c.args.b c.steps.right c.steps.left c.steps.labels.items (joining_back c.args.labels.now.items c.args.a c.args.b c.steps.left c.steps.right c.steps.labels.items c.steps.invariant) c.index-of_right.result.now c.index-of_left.result.now (get_or_read c.steps.labels.items c.steps.right c.index-of_right.result.now c.steps.invariant.right c.index-of_right.ensures 0) (get_or_read c.steps.labels.items c.steps.left c.index-of_left.result.now c.steps.invariant.left c.index-of_left.ensures 0) c.if-of_left-of_right-2.true c.steps.right refl c.if-right-of_right.false).1 in omega (arith, lower)

pub steps-preserved-then-of_left-of_right-2 : goal.steps-preserved-then-of_left-of_right-2
steps-preserved-then-of_left-of_right-2 c = joining_back c.args.labels.now.items c.args.a c.args.b _ _ _ (joining_more c.args.labels.now.items c.args.a c.args.b c.steps.right c.steps.left c.steps.labels.items (joining_back c.args.labels.now.items c.args.a c.args.b c.steps.left c.steps.right c.steps.labels.items c.steps.invariant) c.index-of_right.result.now c.index-of_left.result.now (get_or_read c.steps.labels.items c.steps.right c.index-of_right.result.now c.steps.invariant.right c.index-of_right.ensures 0) (get_or_read c.steps.labels.items c.steps.left c.index-of_left.result.now c.steps.invariant.left c.index-of_left.ensures 0) c.if-of_left-of_right-2.true c.steps.right refl c.if-right-of_right.false).0

pub returns-then-left-of_left : goal.returns-then-left-of_left
returns-then-left-of_left c = joined_root c.args.labels.now.items c.args.a c.args.b c.steps.left c.steps.right c.steps.labels.items c.steps.invariant c.index-of_left.result.now c.index-of_right.result.now (get_or_read c.steps.labels.items c.steps.left c.index-of_left.result.now c.steps.invariant.left c.index-of_left.ensures 0) (get_or_read c.steps.labels.items c.steps.right c.index-of_right.result.now c.steps.invariant.right c.index-of_right.ensures 0) (below_other c.index-of_left.result.now c.index-of_right.result.now c.if-of_left-of_right.false c.if-of_left-of_right-2.false) c.steps.left refl c.if-left-of_left.true

pub steps-smaller : goal.steps-smaller
steps-smaller c = let lower = (joining_more c.args.labels.now.items c.args.a c.args.b c.steps.left c.steps.right c.steps.labels.items c.steps.invariant c.index-of_left.result.now c.index-of_right.result.now (get_or_read c.steps.labels.items c.steps.left c.index-of_left.result.now c.steps.invariant.left c.index-of_left.ensures 0) (get_or_read c.steps.labels.items c.steps.right c.index-of_right.result.now c.steps.invariant.right c.index-of_right.ensures 0) (below_other c.index-of_left.result.now c.index-of_right.result.now c.if-of_left-of_right.false c.if-of_left-of_right-2.false) c.steps.left refl c.if-left-of_left.false).1 in omega (arith, lower)

pub steps-preserved : goal.steps-preserved
steps-preserved c = (joining_more c.args.labels.now.items c.args.a c.args.b c.steps.left c.steps.right c.steps.labels.items c.steps.invariant c.index-of_left.result.now c.index-of_right.result.now (get_or_read c.steps.labels.items c.steps.left c.index-of_left.result.now c.steps.invariant.left c.index-of_left.ensures 0) (get_or_read c.steps.labels.items c.steps.right c.index-of_right.result.now c.steps.invariant.right c.index-of_right.ensures 0) (below_other c.index-of_left.result.now c.index-of_right.result.now c.if-of_left-of_right.false c.if-of_left-of_right-2.false) c.steps.left refl c.if-left-of_left.false).0
