use Rattle.std.proofs.Common.{◌∙◌, ap, length, refl}
use Rattle.std.proofs.lemmas.Option.{slice_get_read}
use Rattle.row_writes.specs.VersionSegment.Rows.{VersionedRows, or_nothing, versions_at}
use Rattle.pass_cells.proofs.CellLemmas.{at_place}
use Rattle.pass_cells.proofs.taken.TakenCellsHeldCells.row.Goals as goal

pub returns : goal.returns
returns c =
    let cells = c.args.self.now.list.items in
    let there = slice_get_read cells
    (length cells) c.place_of.result c.index.result.now refl c.place_of.ensures.within c.index.ensures in
    let own = at_place cells c.args.key c.place_of.result c.index.result.now c.place_of.ensures.place there in
    ap or_nothing c.row.ensures ∙ ap (λ (s : VersionedRows). versions_at s c.args.key) own.0
