use Rattle.std.proofs.Common.{arith, subst, sym, IsSome, ◌+◌}
use Rattle.leaf_array.proofs.CountLemmas.{one-more-records, records-of-first}
use Rattle.leaf_array.proofs.counting.records_in.Goals as goal

pub segments-preserved : goal.segments-preserved
segments-preserved c =
    let more = one-more-records c.segments.segment-index c.args.segments.now c.segment-item.result c.segments-test.true c.segment-item.is in
    omega (arith, more, c.segments.invariant, c.in_ok-records_of.ensures.records, c.in_ok-records.ensures)

pub returns-in_err-records-clause-some : goal.returns-in_err-records-clause-some
returns-in_err-records-clause-some c = λ small.
    let more = one-more-records c.segments.segment-index c.args.segments.now c.segment-item.result c.segments-test.true c.segment-item.is in
    absurd (c.in_err-records.ensures (omega (arith, small, more, records-of-first (c.segments.segment-index + 1) c.args.segments.now, c.segments.invariant, c.in_ok-records_of.ensures.records)))

pub returns-in_err-records_of-clause-some : goal.returns-in_err-records_of-clause-some
returns-in_err-records_of-clause-some c = λ small.
    let more = one-more-records c.segments.segment-index c.args.segments.now c.segment-item.result c.segments-test.true c.segment-item.is in
    subst IsSome (sym c.from_residual.ensures) (c.in_err-records_of.ensures.some (omega (arith, small, more, records-of-first (c.segments.segment-index + 1) c.args.segments.now)))
