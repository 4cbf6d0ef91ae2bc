use Rattle.std.proofs.Common.{◌<◌, length, arith, sym, ◌∙◌}
use Rattle.graphalytics_io.proofs.FieldsLemmas.{line_found, line_skipped, rest_fits}
use Rattle.graphalytics_io.proofs.lines.FieldLines.next.Goals as goal

pub returns-then-not-is_passed_over : goal.returns-then-not-is_passed_over
returns-then-not-is_passed_over c =
    let some : 0 < length c.lines.self-inside.rest.now = grind (arith, c.is_empty.ensures, c.lines-test.true) in
    line_found c.lines.self-inside.rest.now c.cut_line.result.0.now c.cut_line.result.1.now
    c.without_return-line.result.now c.lines.self-inside.number _ some c.cut_line.ensures.line c.cut_line.ensures.rest
    c.without_return-line.ensures c.lines.invariant.same c.fields.result
    (sym c.is_passed_over.ensures ∙ c.if-not-is_passed_over.true) c.fields.ensures

pub lines-preserved : goal.lines-preserved
lines-preserved c =
    let some : 0 < length c.lines.self-inside.rest.now = grind (arith, c.is_empty.ensures, c.lines-test.true) in
    record {
      same =
          line_skipped c.lines.self-inside.rest.now c.cut_line.result.0.now c.cut_line.result.1.now
          c.without_return-line.result.now c.lines.self-inside.number _ some c.cut_line.ensures.line
          c.cut_line.ensures.rest c.without_return-line.ensures c.lines.invariant.same
          (sym c.is_passed_over.ensures ∙ c.if-not-is_passed_over.false);
      fits =
          rw c.cut_line.ensures.rest
          (rest_fits c.lines.self-inside.rest.now c.lines.self-inside.number some c.lines.invariant.fits);
    }
