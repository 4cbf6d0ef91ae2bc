use Rattle.std.proofs.Common.{arith}
use Rattle.leaf_array.proofs.CountLemmas.{one-more-count}
use Rattle.leaf_array.proofs.counting.rows_in.Goals as goal

pub segments-preserved : goal.segments-preserved
segments-preserved c =
    let more = one-more-count c.segments.segment-index c.args.segments.now c.segment-item.result c.segments-test.true c.segment-item.is in
    record { rows = omega (arith, more, c.segments.invariant.rows, c.len-rows.ensures.len); small = omega (arith, c.segments.invariant.small, c.len-rows.ensures.sound.small) }
