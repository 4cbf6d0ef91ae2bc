use Rattle.std.proofs.Common.{arith}
use Rattle.gap_segment.proofs.FencedLemmas.{narrowed_start, narrowed_quarter, counted_on, tells, front_is_place}
use Rattle.gap_segment.proofs.segment.place_in.Goals as goal

pub quarters-init : goal.quarters-init
quarters-init c = narrowed_start _ _ c.requires

pub overflow_add-place-in-quarters-5 : goal.overflow_add-place-in-quarters-5
overflow_add-place-in-quarters-5 c =
    let narrowed = narrowed_quarter _ _ c.quarters.place c.quarters.count _ _ _ _ _ _ c.requires c.quarters.invariant c.quarters-test.true c.one_if_below-first.ensures c.one_if_below-second.ensures c.one_if_below-third.ensures in
    omega (arith, narrowed.within, c.well_formed)

pub quarters-preserved : goal.quarters-preserved
quarters-preserved c = narrowed_quarter _ _ c.quarters.place c.quarters.count _ _ _ _ _ _ c.requires c.quarters.invariant c.quarters-test.true c.one_if_below-first.ensures c.one_if_below-second.ensures c.one_if_below-third.ensures

pub rest-preserved : goal.rest-preserved
rest-preserved c = counted_on _ _ c.rest.i c.rest.found _ c.rest.invariant (tells _ _ _ _ _ c.requires (omega (arith, c.rest-test.true, c.quarters.invariant.within)) c.one_if_below-found.ensures)

pub returns : goal.returns
returns c = rw (c.rest.invariant.behind (omega (arith, c.rest-test.false, c.quarters.invariant.high))) (front_is_place _ _ c.requires)
