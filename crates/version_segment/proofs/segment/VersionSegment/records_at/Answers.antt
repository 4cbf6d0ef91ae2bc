use Rattle.std.proofs.Common.{◌≡◌, ◌+◌, ◌<◌, ◌∙◌, ap, sym, subst, length, get_or}
use Rattle.std.specs.Prelude.{Option, IsSomeAnd}
use Rattle.graph_model.specs.declared.row.Key.{Key}
use Rattle.graph_model.specs.declared.row.Row.{Row}
use Rattle.gap_segment.specs.Fenced.{FencedRows}
use Rattle.store_model.specs.Stamped.{StampedVersions}
use Rattle.row_table.specs.UndoChain.Chains.{list_at}
use Rattle.row_table.specs.HeadMapDeclared.heads.Heads.{Heads}
use Rattle.row_table.specs.Parts.{versions_in}
use Rattle.row_table.specs.Rows.{records_in}
use Rattle.row_table.proofs.VersionLemmas.{records_of_lists}
use Rattle.row_table.proofs.ChangeLemmas.{entry_at, row_count}
use Rattle.version_segment.proofs.segment.VersionSegment.records_at.Goals as goal

pub returns : goal.returns
returns c =
    let blank : Row = record { key = record { src = 0; second = 0 }; weight = 0 } in
    let row : Row = get_or c.self.inside.rows.fenced.rows c.args.place blank in
    let below : c.args.place < length c.self.inside.rows.fenced.rows = rw (← c.self.view_is, row_count c.self.inside.rows.fenced c.self.inside.rows.heads c.self.inside.chains) at c.requires in
    let at = entry_at c.self.inside.rows.heads.entries c.self.inside.chains c.self.inside.rows.fenced.rows c.args.place blank below in
    let rows = c.rows.ensures.rows ∙ ap (λ (s : FencedRows). s.rows) c.segment.ensures in
    let heads = rw rows at c.heads_at-heads.ensures in
    let count = c.records_in_both.ensures
    ∙ ap (λ (h : Heads). length (list_at c.self.inside.chains h.undos) + length (list_at c.self.inside.chains h.touches)) heads
    ∙ sym (records_of_lists _ _ _) in
    rw (← c.self.view_is) (subst (λ (o : Option (Key × StampedVersions)). IsSomeAnd o (λ e. c.records_in_both.result ≡ records_in e.1)) (sym at) count)

pub returns-then-is_settled : goal.returns-then-is_settled
returns-then-is_settled c =
    let blank : Row = record { key = record { src = 0; second = 0 }; weight = 0 } in
    let row : Row = get_or c.self.inside.rows.fenced.rows c.args.place blank in
    let below : c.args.place < length c.self.inside.rows.fenced.rows = rw (← c.self.view_is, row_count c.self.inside.rows.fenced c.self.inside.rows.heads c.self.inside.chains) at c.requires in
    let at = entry_at c.self.inside.rows.heads.entries c.self.inside.chains c.self.inside.rows.fenced.rows c.args.place blank below in
    let none = c.is_settled.ensures c.if-is_settled.true row.key in
    rw (← c.self.view_is) (subst (λ (o : Option (Key × StampedVersions)). IsSomeAnd o (λ e. 0 ≡ records_in e.1)) (sym at) (sym (ap (λ (h : Heads). records_in (versions_in c.self.inside.chains h row.weight)) none)))
