use Rattle.std.proofs.Common.{◌≡◌, ◌∙◌, ◌+◌, ◌-◌, ◌++◌, take, drop, length, sym, ap, arith}
use Rattle.std.proofs.Math.Seq.{take-append-add, drop-append-add}
use Rattle.gap_segment.proofs.segment.share_rows.Goals as goal

pub returns-else-count-has-clause-left : goal.returns-else-count-has-clause-left
returns-else-count-has-clause-left c =
    let split : length c.args.left.now.items + (c.args.count - c.len-has.result) ≡ c.args.count = omega (arith, c.len-has.ensures, c.if-count-has.false) in
    c.take_rows.ensures.left ∙ sym (take-append-add c.args.left.now.items c.args.right.now.items (c.args.count - c.len-has.result)) ∙ ap (λ n. take n (c.args.left.now.items ++ c.args.right.now.items)) split

pub returns-else-count-has-clause-right : goal.returns-else-count-has-clause-right
returns-else-count-has-clause-right c =
    let split : length c.args.left.now.items + (c.args.count - c.len-has.result) ≡ c.args.count = omega (arith, c.len-has.ensures, c.if-count-has.false) in
    c.take_rows.ensures.right ∙ sym (drop-append-add c.args.left.now.items c.args.right.now.items (c.args.count - c.len-has.result)) ∙ ap (λ n. drop n (c.args.left.now.items ++ c.args.right.now.items)) split
