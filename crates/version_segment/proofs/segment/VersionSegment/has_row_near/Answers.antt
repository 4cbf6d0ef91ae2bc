use Rattle.std.proofs.Common.{◌≡◌, sym, ◌∙◌, ap, refl, subst}
use Rattle.std.specs.Prelude.{is_some, IsSomeAnd, Option}
use Rattle.graph_model.specs.declared.row.Row.{Row}
use Rattle.row_table.specs.declared.found.FoundRow.{FoundRow}
use Rattle.row_table.specs.HeadMap.Heads.{heads_at}
use Rattle.row_table.specs.Parts.{IsRow, value_in}
use Rattle.row_table.specs.Rows.{VersionedRows, has_row}
use Rattle.row_table.proofs.HeadMap.HeadLemmas.{found_at}
use Rattle.row_table.proofs.ChangeLemmas.{no_row}
use Rattle.row_table.proofs.PartLemmas.{versions_there}
use Rattle.version_segment.proofs.segment.VersionSegment.has_row_near.Goals as goal

pub returns-in-Ok : goal.returns-in-Ok
returns-in-Ok c =
    let rows = c.self.inside.rows.fenced in
    let entries = c.self.inside.rows.heads.entries in
    let heads = heads_at entries c.args.key in
    let found = found_at _ rows.rows c.in-Ok.field-0 (rw c.segment.ensures at c.in-Ok.ensures) in
    let row : FoundRow = record { place = c.in-Ok.field-0; value = value_in heads found.0.weight; undos = heads.undos; touches = heads.touches } in
    let at : IsRow rows.rows entries c.args.key row = record {
      at = subst (λ (o : Option Row). IsSomeAnd o (λ r. (r.key ≡ c.args.key) × (value_in heads found.0.weight ≡ value_in heads r.weight))) (sym found.1) (found.2, refl);
      undos = refl;
      touches = refl;
    } in
    sym (ap (λ (s : VersionedRows). has_row s c.args.key) (sym c.self.view_is) ∙ ap is_some (versions_there rows entries c.self.inside.chains c.args.key c.self.invariant row at))

pub returns-in-Err : goal.returns-in-Err
returns-in-Err c =
    sym (ap (λ (s : VersionedRows). has_row s c.args.key) (sym c.self.view_is) ∙ no_row c.self.inside.rows.fenced c.self.inside.rows.heads c.self.inside.chains c.args.key c.self.invariant c.in-Err.field-0 (rw c.segment.ensures at c.in-Err.ensures))
