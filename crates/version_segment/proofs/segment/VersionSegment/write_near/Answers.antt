use Rattle.std.proofs.Common.{None}
use Rattle.row_table.specs.UndoChain.Chains.{list_at}
use Rattle.row_table.specs.Rows.{written}
use Rattle.row_table.specs.Parts.{of_lists}
use Rattle.row_table.proofs.ListLemmas.{undos_change, undos_leave_touches}
use Rattle.row_table.proofs.ChangeLemmas.{no_row, row_count, row_begin, later_parts, later_changes, first_parts, first_changes}
use Rattle.version_segment.proofs.segment.VersionSegment.write_near.Goals as goal

pub invariant_of-self : goal.invariant_of-self
invariant_of-self c =
    let row = c.in-Ok.ensures in
    let change = undos_change _ _ _ _ _ _ _ (row_begin _ c.self.inside.rows.heads _ _ c.self.invariant _ row) _ c.put_record-undos.ensures.others in
    later_parts _ c.self.inside.rows.heads _ _ c.self.invariant _ row _ _ c.set_row.new.rows.heads _ _ _ change c.set_row.ensures.rows c.set_row.ensures.heads

pub insert_row-requires-clause-rows : goal.insert_row-requires-clause-rows
insert_row-requires-clause-rows c =
    let room = rw (← c.self.view_is) at c.requires.room in
    rw (← row_count c.self.inside.rows.fenced c.self.inside.rows.heads c.self.inside.chains) (room (no_row _ c.self.inside.rows.heads c.self.inside.chains _ c.self.invariant _ c.in-Err.ensures))

pub invariant_of-self-in-Err : goal.invariant_of-self-in-Err
invariant_of-self-in-Err c =
    let within = rw (← c.self.view_is) at c.requires.within in
    first_parts _ c.self.inside.rows.heads _ _ c.self.invariant _ c.in-Err.ensures _ _ c.insert_row.new.rows.heads _ _ c.put_record-undos-in-Err.ensures.others c.insert_row.ensures.rows c.insert_row.ensures.heads within

pub returns-in-Ok-clause-written : goal.returns-in-Ok-clause-written
returns-in-Ok-clause-written c =
    let row = c.in-Ok.ensures in
    let begin = row_begin _ c.self.inside.rows.heads _ _ c.self.invariant _ row in
    let change = undos_change _ _ _ _ _ _ _ begin _ c.put_record-undos.ensures.others in
    let touches = undos_leave_touches _ _ _ _ _ _ _ begin _ c.put_record-undos.ensures.others in
    rw (← c.self.view_is) (later_changes _ c.self.inside.rows.heads _ _ c.self.invariant _ row _ _ c.set_row.new.rows.heads _ _ _ change c.set_row.ensures.rows c.set_row.ensures.heads (written c.args.by c.args.value)
    (λ i. of_lists c.args.value (c.put_record-undos.ensures.list i) (touches i)))

pub returns-in-Err-clause-written : goal.returns-in-Err-clause-written
returns-in-Err-clause-written c =
    rw (← c.self.view_is) (first_changes _ c.self.inside.rows.heads _ _ c.self.invariant _ c.in-Err.ensures _ _ c.insert_row.new.rows.heads _ _ c.put_record-undos-in-Err.ensures.others c.insert_row.ensures.rows c.insert_row.ensures.heads (written c.args.by c.args.value)
    (λ i. of_lists c.args.value (c.put_record-undos-in-Err.ensures.list i) (list_at c.put_record-undos-in-Err.new.chains None)))
