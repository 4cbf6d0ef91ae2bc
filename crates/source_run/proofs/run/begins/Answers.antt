use Rattle.std.proofs.Common.{◌+◌, ◌∙◌, true, false, arith}
use Rattle.source_run.proofs.RunLemmas.{begun_within, begun_next}
use Rattle.source_run.proofs.run.begins.Goals.{then-is_begin, else-is_begin}
use Rattle.source_run.proofs.run.begins.Goals as goal

pub overflow_add-count : goal.overflow_add-count
overflow_add-count c =
    omega (
      arith,
      begun_within c.args.script.now 0 (c.lines.command-index + 1),
      c.requires,
      begun_next c.args.script.now c.lines.command-index c.command-item.result c.lines-test.true c.command-item.is true c.if-is_begin.ensures c.lines.count c.lines.invariant,
    )

pub lines-preserved : goal.lines-preserved
lines-preserved c = elim c.if-is_begin.branch [
  | then-is_begin w ↦ w.count-is ∙ begun_next c.args.script.now c.lines.command-index c.command-item.result c.lines-test.true c.command-item.is true w.if-is_begin.ensures c.lines.count c.lines.invariant
  | else-is_begin w ↦ w.count-is ∙ begun_next c.args.script.now c.lines.command-index c.command-item.result c.lines-test.true c.command-item.is false w.if-is_begin.ensures c.lines.count c.lines.invariant
]
