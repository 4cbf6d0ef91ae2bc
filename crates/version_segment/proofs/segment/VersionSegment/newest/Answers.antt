use Rattle.std.proofs.Common.{sym, ◌∙◌, ap}
use Rattle.store_model.specs.Stamped.{StampedVersions}
use Rattle.row_table.specs.UndoChain.Chains.{list_at}
use Rattle.row_table.specs.Rows.{VersionedRows, versions_at, newest_writer}
use Rattle.row_table.proofs.ChangeLemmas.{no_versions, versions_now}
use Rattle.version_segment.proofs.LookupLemmas.{newest_is}
use Rattle.version_segment.proofs.segment.VersionSegment.newest.Goals as goal

pub returns-in-Ok : goal.returns-in-Ok
returns-in-Ok c =
    let found = ap (λ (s : VersionedRows). versions_at s c.args.key) (sym c.self.view_is) ∙ versions_now c.self.inside.rows.fenced c.self.inside.rows.heads c.self.inside.chains c.args.key c.self.invariant c.in-Ok.row c.in-Ok.ensures in
    c.newest.ensures ∙ newest_is c.in-Ok.row.value (list_at c.self.inside.chains c.in-Ok.row.undos) ∙ sym (ap (λ (vs : StampedVersions). newest_writer vs.pairs) found)

pub returns-in-Err : goal.returns-in-Err
returns-in-Err c =
    let none = ap (λ (s : VersionedRows). versions_at s c.args.key) (sym c.self.view_is) ∙ no_versions c.self.inside.rows.fenced c.self.inside.rows.heads c.self.inside.chains c.args.key c.self.invariant c.in-Err.field-0 c.in-Err.ensures in
    sym (ap (λ (vs : StampedVersions). newest_writer vs.pairs) none)
