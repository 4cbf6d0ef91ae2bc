use Rattle.std.proofs.Common.{rules, ◌≡◌, ◌+◌, ◌≤◌, length, ap, ◌∙◌, arith}
use Rattle.std.proofs.lemmas.List.{length_push}
use Rattle.part_scan.specs.Parts.{rows_in}
use Rattle.part_scan.proofs.ListLemmas.{cut_next, cut_last}
use Rattle.part_scan.proofs.lists.cut_rows.Goals as goal

pub parts-preserved : goal.parts-preserved
parts-preserved c =
    let within : c.parts.start + c.min.result ≤ length c.args.rows.now = search rules in
    let count = ap length c.in_ok-push.ensures.ok ∙ length_push c.parts.lists c.in_ok-list_of.field-0 in
    let known = c.parts.invariant.2 in (
      ap rows_in c.in_ok-push.ensures.ok ∙ cut_next c.args.rows.now c.parts.lists c.parts.start (c.parts.start + c.min.result) c.in_ok-list_of.field-0 c.parts.invariant.0 (omega arith) c.in_ok-list_of.ensures,
      within,
      omega (arith, count, known),
    )

pub returns-clause-rows : goal.returns-clause-rows
returns-clause-rows c = ap rows_in c.in_ok-push-2.ensures.ok ∙ cut_last c.args.rows.now c.parts.lists c.parts.start c.in_ok-list_of-2.field-0 c.parts.invariant.0 c.parts.invariant.1 c.in_ok-list_of-2.ensures
