use Rattle.std.proofs.Common.{arith, ◌+◌}
use Rattle.leaf_array.proofs.SegmentLemmas.{records-take}
use Rattle.leaf_array.proofs.CountLemmas.{one-more-row}
use Rattle.leaf_array.proofs.counting.records_of.Goals as goal

pub places-preserved : goal.places-preserved
places-preserved c =
    let more = one-more-row c.places.place c.args.segment.now.rows c.records_at.result c.records_at.ensures in
    omega (arith, more, c.places.invariant, c.in_ok-records.ensures)

pub returns-in_err-records-clause-some : goal.returns-in_err-records-clause-some
returns-in_err-records-clause-some c = λ small.
    let more = one-more-row c.places.place c.args.segment.now.rows c.records_at.result c.records_at.ensures in
    absurd (c.in_err-records.ensures (omega (arith, small, more, records-take (c.places.place + 1) c.args.segment.now.rows, c.places.invariant)))
