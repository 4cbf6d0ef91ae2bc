use Rattle.std.proofs.Common.{sym, subst, ◌∙◌, arith}
use Rattle.graphalytics_io.specs.Numbers.{HasValue}
use Rattle.graphalytics_io.proofs.NumberLemmas.{no_number, value_more, whole_number, reads_number, reads_large, reads_other}
use Rattle.graphalytics_io.proofs.number.read_number.Goals as goal

pub returns-then-not-is_ascii_digit : goal.returns-then-not-is_ascii_digit
returns-then-not-is_ascii_digit c =
    reads_other c.args.limit c.args.field.now
    (no_number c.args.field.now c.digits.i c.digits-test.true c.if-not-is_ascii_digit.ensures.cases)

pub digits-preserved : goal.digits-preserved
digits-preserved c =
    let next =
    value_more c.args.field.now c.digits.i c.digits.value c.with_digit-value.result c.digits-test.true
    c.if-not-is_ascii_digit.ensures.cases c.digits.invariant.each c.digits.invariant.value
    c.with_digit-value.ensures in
    record { each = next.0; value = next.1 }

pub returns-in_default : goal.returns-in_default
returns-in_default c =
    let some = sym c.is_empty.ensures ∙ c.if-is_empty.false in
    let whole =
    whole_number c.args.field.now c.digits.i c.digits.value some c.digits-test.false c.digits.invariant.each
    c.digits.invariant.value in
    let large = subst (HasValue c.args.field.now) c.in_default.is whole.1 in
    reads_large c.args.limit c.args.field.now whole.0 (omega (arith, large, c.ranges.limit.fits))

pub returns-then-number-limit : goal.returns-then-number-limit
returns-then-number-limit c =
    let some = sym c.is_empty.ensures ∙ c.if-is_empty.false in
    let whole =
    whole_number c.args.field.now c.digits.i c.digits.value some c.digits-test.false c.digits.invariant.each
    c.digits.invariant.value in
    let same = subst (HasValue c.args.field.now) c.in-Some.is whole.1 in
    reads_number c.args.limit c.args.field.now c.in-Some.number whole.0 same c.if-number-limit.true

pub returns-else-number-limit : goal.returns-else-number-limit
returns-else-number-limit c =
    let some = sym c.is_empty.ensures ∙ c.if-is_empty.false in
    let whole =
    whole_number c.args.field.now c.digits.i c.digits.value some c.digits-test.false c.digits.invariant.each
    c.digits.invariant.value in
    let same = subst (HasValue c.args.field.now) c.in-Some.is whole.1 in
    reads_large c.args.limit c.args.field.now whole.0 (omega (arith, same, c.if-number-limit.false))
