use Rattle.std.proofs.Common.{◌∙◌, sym, ap}
use Rattle.store_model.specs.Stamped.{StampedVersions}
use Rattle.row_table.specs.Rows.{VersionedRows, has_record, touched, versions_at}
use Rattle.row_table.specs.Parts.{of_lists}
use Rattle.row_table.proofs.ListLemmas.{touches_change, touches_leave_undos}
use Rattle.row_table.proofs.VersionLemmas.{any_touch, touched_lists}
use Rattle.row_table.proofs.ChangeLemmas.{row_missed, key_there, versions_now, row_begin, later_parts, later_changes}
use Rattle.version_segment.proofs.segment.VersionSegment.touch_near.Goals as goal

pub unreachable-requires : goal.unreachable-requires
unreachable-requires c = row_missed _ c.self.inside.rows.heads c.self.inside.chains _ c.self.invariant _ (c.in_default.ensures) (rw (← c.self.view_is) at c.requires.row)

pub touch-requires-clause-never : goal.touch-requires-clause-never
touch-requires-clause-never c = λ never.
    let found = ap (λ (s : VersionedRows). versions_at s c.args.key) (sym c.self.view_is) ∙ versions_now _ c.self.inside.rows.heads c.self.inside.chains _ c.self.invariant _ c.in-Ok.ensures in
    sym (any_touch c.args.by _) ∙ ap (λ (vs : StampedVersions). has_record c.args.by vs.touches) (sym found) ∙ c.requires.never never

pub set_row-requires-clause-at : goal.set_row-requires-clause-at
set_row-requires-clause-at c = key_there _ c.self.inside.rows.heads c.self.inside.chains _ c.self.invariant _ (c.in-Ok.ensures)

pub invariant_of-self : goal.invariant_of-self
invariant_of-self c =
    let row = c.in-Ok.ensures in
    let change = touches_change _ _ _ _ _ _ _ (row_begin _ c.self.inside.rows.heads _ _ c.self.invariant _ row) _ (c.in-Ok-touch.ensures.others) in
    later_parts _ c.self.inside.rows.heads _ _ c.self.invariant _ row _ _ c.set_row.new.rows.heads _ _ _ change c.set_row.ensures.rows c.set_row.ensures.heads

pub returns-clause-touched : goal.returns-clause-touched
returns-clause-touched c =
    let row = c.in-Ok.ensures in
    let begin = row_begin _ c.self.inside.rows.heads _ _ c.self.invariant _ row in
    let change = touches_change _ _ _ _ _ _ _ begin _ (c.in-Ok-touch.ensures.others) in
    let undos = touches_leave_undos _ _ _ _ _ _ _ begin _ (c.in-Ok-touch.ensures.others) in
    rw (← c.self.view_is) (later_changes _ c.self.inside.rows.heads _ _ c.self.invariant _ row _ _ c.set_row.new.rows.heads _ _ _ change c.set_row.ensures.rows c.set_row.ensures.heads (touched c.args.by)
    ((λ i. of_lists c.in-Ok.row.value (undos i) (c.in-Ok-touch.ensures.ok i)) ∙ touched_lists c.args.by _ _ _))
