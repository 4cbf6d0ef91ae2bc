use Rattle.std.proofs.Common.{◌∙◌, ap}
use Rattle.row_writes.specs.VersionSegment.Rows.{all_records}
use Rattle.leaf_rows.proofs.MergeLemmas.{step_lowers, step_rows}
use Rattle.leaf_rows.proofs.RoomLemmas.{keeps_chain}
use Rattle.leaf_rows.proofs.rows.LeafRows.merge_all.Goals as goal

pub steps-smaller : goal.steps-smaller
steps-smaller c = step_lowers c.steps.self c.merge_step.new.self c.args.stamp (rw c.self.view_is at c.is_sound.ensures.sound) (rw c.in-Ok-true.field-0-test at c.in-Ok-true.ensures.steps)

pub steps-preserved : goal.steps-preserved
steps-preserved c = record {
  keeps = keeps_chain _ _ _ c.steps.invariant.keeps c.merge_step.ensures.contents;
  records = ap all_records (step_rows c.steps.self c.merge_step.new.self c.args.stamp (rw c.in-Ok-true.field-0-test at c.in-Ok-true.ensures.steps)) ∙ c.steps.invariant.records;
}
