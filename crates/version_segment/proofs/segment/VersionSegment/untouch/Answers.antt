use Rattle.std.proofs.Common.{◌∙◌, ap}
use Rattle.row_table.specs.UndoChain.Records.{without_touch}
use Rattle.row_table.specs.UndoChain.Chains.{list_at}
use Rattle.row_table.specs.Rows.{is_empty, untouched}
use Rattle.row_table.specs.Parts.{of_lists}
use Rattle.row_table.proofs.ListLemmas.{touches_change, touches_leave_undos}
use Rattle.row_table.proofs.VersionLemmas.{untouched_lists}
use Rattle.row_table.proofs.ChangeLemmas.{row_missed, key_there, row_begin, later_parts, later_changes, stays_settled, settled_undos, settled_touches, spare_stays}
use Rattle.version_segment.proofs.segment.VersionSegment.untouch.Goals as goal

pub unreachable-requires : goal.unreachable-requires
unreachable-requires c = row_missed _ c.self.inside.rows.heads c.self.inside.chains _ c.self.invariant _ c.in_default.ensures (rw (← c.self.view_is) at c.requires)

pub set_row-requires-clause-at : goal.set_row-requires-clause-at
set_row-requires-clause-at c = key_there _ c.self.inside.rows.heads c.self.inside.chains _ c.self.invariant _ c.in-Ok.ensures

pub invariant_of-self : goal.invariant_of-self
invariant_of-self c =
    let row = c.in-Ok.ensures in
    let change = touches_change _ _ _ _ _ _ _ (row_begin _ c.self.inside.rows.heads _ _ c.self.invariant _ row) _ c.untouch-touches.ensures.others in
    later_parts _ c.self.inside.rows.heads _ _ c.self.invariant _ row _ _ c.set_row.new.rows.heads _ _ _ change c.set_row.ensures.rows c.set_row.ensures.heads

pub returns-clause-untouched : goal.returns-clause-untouched
returns-clause-untouched c =
    let row = c.in-Ok.ensures in
    let begin = row_begin _ c.self.inside.rows.heads _ _ c.self.invariant _ row in
    let change = touches_change _ _ _ _ _ _ _ begin _ c.untouch-touches.ensures.others in
    let undos = touches_leave_undos _ _ _ _ _ _ _ begin _ c.untouch-touches.ensures.others in
    rw (← c.self.view_is) (later_changes _ c.self.inside.rows.heads _ _ c.self.invariant _ row _ _ c.set_row.new.rows.heads _ _ _ change c.set_row.ensures.rows c.set_row.ensures.heads (untouched c.args.by)
    ((λ i. of_lists c.in-Ok.row.value (undos i) (c.untouch-touches.ensures.list i)) ∙ untouched_lists c.args.by _ _ _))

pub returns-clause-spare : goal.returns-clause-spare
returns-clause-spare c =
    let row = c.in-Ok.ensures in
    let begin = row_begin _ c.self.inside.rows.heads _ _ c.self.invariant _ row in
    let change = touches_change _ _ _ _ _ _ _ begin _ c.untouch-touches.ensures.others in
    let undos = touches_leave_undos _ _ _ _ _ _ _ begin _ c.untouch-touches.ensures.others in
    rw (← c.self.view_is) (spare_stays _ _ _ _ c.untouch-touches.ensures.spare (c.set_row.ensures.kept (λ settled.
    stays_settled c.self.inside.rows.fenced c.self.inside.rows.heads.entries c.untouch-touches.new.self c.args.key c.in-Ok.row row settled c.in-Ok.row.undos c.untouch-touches.result change.undos_head change.touches_head
    (ap is_empty (undos ∙ ap (list_at c.self.inside.chains) (settled_undos c.self.inside.rows.fenced c.self.inside.rows.heads.entries c.self.inside.chains c.args.key c.in-Ok.row row settled)))
    (ap is_empty (c.untouch-touches.ensures.list ∙ ap (λ q. without_touch c.args.by (list_at c.self.inside.chains q)) (settled_touches c.self.inside.rows.fenced c.self.inside.rows.heads.entries c.self.inside.chains c.args.key c.in-Ok.row row settled))))))
