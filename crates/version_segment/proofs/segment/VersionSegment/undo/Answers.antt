use Rattle.std.proofs.Common.{◌∙◌, ap, sym, subst, ◌≡◌, ℕ, Some, None}
use Rattle.std.specs.Prelude.{Option}
use Rattle.row_table.specs.UndoChain.Chains.{list_at, ChangesOneList}
use Rattle.store_model.specs.Stamped.{StampedVersions}
use Rattle.row_table.specs.Rows.{undone}
use Rattle.row_table.specs.Parts.{of_lists}
use Rattle.row_table.proofs.ListLemmas.{undos_change, undos_leave_touches}
use Rattle.row_table.proofs.VersionLemmas.{undone_list, no_writer}
use Rattle.row_table.proofs.ChangeLemmas.{no_versions, versions_now, key_there, row_begin, later_parts, later_changes, settled_undos, spare_stays}
use Rattle.version_segment.proofs.segment.VersionSegment.undo.Goals as goal

pub unreachable-requires : goal.unreachable-requires
unreachable-requires c =
    let newest = rw (← c.self.view_is) at c.requires in
    no_writer _ _ (ap (λ (vs : StampedVersions). vs.pairs) (no_versions _ c.self.inside.rows.heads c.self.inside.chains _ c.self.invariant _ c.in_default.ensures)) newest

pub unreachable-requires-in_default-undos : goal.unreachable-requires-in_default-undos
unreachable-requires-in_default-undos c =
    let newest = rw (← c.self.view_is) at c.requires in
    let now = versions_now _ c.self.inside.rows.heads c.self.inside.chains _ c.self.invariant _ c.in-Ok.ensures in
    no_writer _ _ (ap (λ (vs : StampedVersions). vs.pairs) (now ∙ ap (λ q. of_lists c.in-Ok.row.value (list_at c.self.inside.chains q) (list_at c.self.inside.chains c.in-Ok.row.touches)) c.in_default-undos.is)) newest

pub set_row-requires-clause-at : goal.set_row-requires-clause-at
set_row-requires-clause-at c = key_there _ c.self.inside.rows.heads c.self.inside.chains _ c.self.invariant _ c.in-Ok.ensures

pub invariant_of-self : goal.invariant_of-self
invariant_of-self c =
    let row = c.in-Ok.ensures in
    let one = subst (λ (q : Option ℕ). ChangesOneList c.self.inside.chains c.undo-value.new.self q c.undo-value.result.1) (sym c.in-Some.is) c.undo-value.ensures.others in
    let change = undos_change _ _ _ _ _ _ _ (row_begin _ c.self.inside.rows.heads _ _ c.self.invariant _ row) _ one in
    later_parts _ c.self.inside.rows.heads _ _ c.self.invariant _ row _ _ c.set_row.new.rows.heads _ _ _ change c.set_row.ensures.rows c.set_row.ensures.heads

pub returns-clause-undone : goal.returns-clause-undone
returns-clause-undone c =
    let row = c.in-Ok.ensures in
    let one = subst (λ (q : Option ℕ). ChangesOneList c.self.inside.chains c.undo-value.new.self q c.undo-value.result.1) (sym c.in-Some.is) c.undo-value.ensures.others in
    let begin = row_begin _ c.self.inside.rows.heads _ _ c.self.invariant _ row in
    let change = undos_change _ _ _ _ _ _ _ begin _ one in
    let touches = undos_leave_touches _ _ _ _ _ _ _ begin _ one in
    let was = ap (list_at c.self.inside.chains) c.in-Some.is ∙ c.undo-value.ensures.undone.was in
    rw (← c.self.view_is) (later_changes _ c.self.inside.rows.heads _ _ c.self.invariant _ row _ _ c.set_row.new.rows.heads _ _ _ change c.set_row.ensures.rows c.set_row.ensures.heads undone
    (ap (of_lists c.undo-value.result.0 (list_at c.undo-value.new.self c.undo-value.result.1)) touches ∙ undone_list _ _ c.undo-value.ensures.undone.undo _ _ (list_at c.self.inside.chains c.in-Ok.row.touches) was c.undo-value.ensures.undone.value))

pub returns-clause-spare : goal.returns-clause-spare
returns-clause-spare c =
    rw (← c.self.view_is) (spare_stays _ _ _ _ c.undo-value.ensures.spare (c.set_row.ensures.kept (λ settled. absurd (some_none _ (sym c.in-Some.is ∙ settled_undos c.self.inside.rows.fenced c.self.inside.rows.heads.entries c.self.inside.chains c.args.key c.in-Ok.row c.in-Ok.ensures settled)))))
  where
    some_none : (key : ℕ) → ◌≡◌ {A = Option ℕ} (Some key) None → ⊥
    some_none key e = cc
