use Rattle.std.proofs.Common.{◌+◌, ◌-◌, ◌/◌, ◌<◌, length, sym, ◌∙◌, slice_index_or, arith}
use Rattle.std.proofs.lemmas.Option.{slice_get-get_or}
use Rattle.serial_check.specs.declared.range.FootprintRange.{FootprintRange}
use Rattle.serial_check.proofs.RangeLemmas.{middle_is, begins_above, begins_upto}
use Rattle.serial_check.proofs.footprint.count_up_to.Goals as goal

pub halves-preserved-then-is_below : goal.halves-preserved-then-is_below
halves-preserved-then-is_below c =
    let xs = c.args.ranges.now in
    let d : FootprintRange = record { from = record { src = 0; second = 0 }; until = record { src = 0; second = 0 } } in
    let m = c.halves.low + (c.halves.high - c.halves.low) / 2 in
    let mid = middle_is c.halves.low c.halves.high c.halves-test.true in
    let inside : m < length xs = omega (arith, mid.1, c.halves.invariant.within) in
    record { ordered = mid.0; within = omega (arith, inside); before = c.halves.invariant.before; behind = begins_above xs c.requires c.args.key m (slice_index_or xs m d) (slice_get-get_or xs m d inside) (sym c.is_below.ensures ∙ c.if-is_below.true) }

pub halves-preserved : goal.halves-preserved
halves-preserved c =
    let xs = c.args.ranges.now in
    let d : FootprintRange = record { from = record { src = 0; second = 0 }; until = record { src = 0; second = 0 } } in
    let m = c.halves.low + (c.halves.high - c.halves.low) / 2 in
    let mid = middle_is c.halves.low c.halves.high c.halves-test.true in
    let inside : m < length xs = omega (arith, mid.1, c.halves.invariant.within) in
    record { ordered = omega (arith, mid.1); within = c.halves.invariant.within; before = begins_upto xs c.requires c.args.key m (slice_index_or xs m d) (slice_get-get_or xs m d inside) (sym c.is_below.ensures ∙ c.if-is_below.false); behind = c.halves.invariant.behind }
