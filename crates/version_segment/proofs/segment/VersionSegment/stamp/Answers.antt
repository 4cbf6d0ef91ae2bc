use Rattle.std.proofs.Common.{◌∙◌, ap, refl, map, arith}
use Rattle.store_model.specs.Stamped.{stamp}
use Rattle.row_table.specs.UndoChain.Records.{stamped_by}
use Rattle.row_table.specs.UndoChain.Chains.{list_at}
use Rattle.row_table.specs.Rows.{is_empty}
use Rattle.row_table.specs.Parts.{of_lists}
use Rattle.row_table.proofs.ListLemmas.{undos_change, undos_leave_touches, touches_change, touches_leave_undos}
use Rattle.row_table.proofs.VersionLemmas.{stamped_lists}
use Rattle.row_table.proofs.ChangeLemmas.{row_begin, later_parts, later_changes, no_change, stays_settled, settled_undos, settled_touches, spare_stays}
use Rattle.version_segment.proofs.segment.VersionSegment.stamp.Goals as goal

pub invariant_of-self : goal.invariant_of-self
invariant_of-self c =
    let row = c.in-Ok.ensures in
    let begin = row_begin _ c.self.inside.rows.heads _ _ c.self.invariant _ row in
    let first = undos_change _ _ _ _ _ _ _ begin _ c.stamp.ensures.others in
    let change = touches_change _ _ _ _ _ _ _ first _ c.stamp-in-Ok.ensures.others in
    later_parts _ c.self.inside.rows.heads _ _ c.self.invariant _ row _ _ c.set_row.new.rows.heads _ _ _ change c.set_row.ensures.rows c.set_row.ensures.heads

pub returns-in-Ok-clause-stamped : goal.returns-in-Ok-clause-stamped
returns-in-Ok-clause-stamped c =
    let row = c.in-Ok.ensures in
    let begin = row_begin _ c.self.inside.rows.heads _ _ c.self.invariant _ row in
    let first = undos_change _ _ _ _ _ _ _ begin _ c.stamp.ensures.others in
    let change = touches_change _ _ _ _ _ _ _ first _ c.stamp-in-Ok.ensures.others in
    let undos = touches_leave_undos _ _ _ _ _ _ _ first _ c.stamp-in-Ok.ensures.others ∙ c.stamp.ensures.list in
    let touches = c.stamp-in-Ok.ensures.list ∙ ap (map (stamped_by c.args.by c.args.stamp)) (undos_leave_touches _ _ _ _ _ _ _ begin _ c.stamp.ensures.others) in
    rw (← c.self.view_is) (later_changes _ c.self.inside.rows.heads _ _ c.self.invariant _ row _ _ c.set_row.new.rows.heads _ _ _ change c.set_row.ensures.rows c.set_row.ensures.heads (stamp c.args.by c.args.stamp)
    ((λ i. of_lists c.in-Ok.row.value (undos i) (touches i)) ∙ stamped_lists c.args.by c.args.stamp c.in-Ok.row.value (list_at c.self.inside.chains c.in-Ok.row.undos) (list_at c.self.inside.chains c.in-Ok.row.touches)))

pub returns-in-Ok-clause-spare : goal.returns-in-Ok-clause-spare
returns-in-Ok-clause-spare c =
    let row = c.in-Ok.ensures in
    let begin = row_begin _ c.self.inside.rows.heads _ _ c.self.invariant _ row in
    let first = undos_change _ _ _ _ _ _ _ begin _ c.stamp.ensures.others in
    let change = touches_change _ _ _ _ _ _ _ first _ c.stamp-in-Ok.ensures.others in
    rw (← c.self.view_is) (spare_stays _ _ _ _ (omega (arith, c.stamp.ensures.spare, c.stamp-in-Ok.ensures.spare)) (c.set_row.ensures.kept (λ settled.
    stays_settled c.self.inside.rows.fenced c.self.inside.rows.heads.entries c.stamp-in-Ok.new.self c.args.key c.in-Ok.row row settled c.in-Ok.row.undos c.in-Ok.row.touches change.undos_head change.touches_head
    (ap (λ q. is_empty (list_at c.stamp-in-Ok.new.self q)) (settled_undos c.self.inside.rows.fenced c.self.inside.rows.heads.entries c.self.inside.chains c.args.key c.in-Ok.row row settled))
    (ap (λ q. is_empty (list_at c.stamp-in-Ok.new.self q)) (settled_touches c.self.inside.rows.fenced c.self.inside.rows.heads.entries c.self.inside.chains c.args.key c.in-Ok.row row settled)))))

pub returns-in_default-clause-stamped : goal.returns-in_default-clause-stamped
returns-in_default-clause-stamped c =
    rw (← c.self.view_is) (no_change c.self.inside.rows.fenced c.self.inside.rows.heads c.self.inside.chains c.args.key c.self.invariant _ c.in_default.ensures (stamp c.args.by c.args.stamp) refl)
