use Rattle.std.proofs.Common.{length, refl, subst, sym}
use Rattle.std.proofs.lemmas.Option.{slice_get_read}
use Rattle.row_writes.specs.VersionSegment.Changes.{MayChange}
use Rattle.row_writes.specs.VersionSegment.Rows.{VersionedRows}
use Rattle.pass_cells.proofs.CellLemmas.{at_place}
use Rattle.pass_cells.proofs.DoneLemmas.{change_done, change_keeps}
use Rattle.pass_cells.proofs.TakenLemmas.{may_change}
use Rattle.pass_cells.proofs.taken.TakenCellsHeldCells.change.Goals as goal

pub change-requires : goal.change-requires
change-requires c =
    let cells = c.args.self.now.list.items in
    let t = c.index_mut-taken.result.now in
    let there = slice_get_read cells
    (length cells) c.place_of-place.result t refl c.place_of-place.ensures.within c.index_mut-taken.ensures.value in
    let own = at_place cells c.args.key c.place_of-place.result t c.place_of-place.ensures.place there in
    subst (λ (s : VersionedRows). MayChange c.args.change c.args.by c.args.key s) (sym own.0)
    (may_change c.args.change c.args.by cells c.args.key c.requires.held c.requires.may)

pub returns-clause-changed : goal.returns-clause-changed
returns-clause-changed c =
    let cells = c.args.self.now.list.items in
    let t = c.index_mut-taken.result.now in
    let there = slice_get_read cells
    (length cells) c.place_of-place.result t refl c.place_of-place.ensures.within c.index_mut-taken.ensures.value in
    let own = at_place cells c.args.key c.place_of-place.result t c.place_of-place.ensures.place there in
    let may = subst (λ (s : VersionedRows). MayChange c.args.change c.args.by c.args.key s) (sym own.0)
    (may_change c.args.change c.args.by cells c.args.key c.requires.held c.requires.may) in
    change_done cells t _ c.args.key c.place_of-place.result c.place_of-place.ensures.place there c.requires.held refl
    c.args.change c.args.by c.is_segment.ensures c.is_segment-2.ensures may c.change.ensures.changed
    c.change.ensures.spare

pub returns-clause-keeps : goal.returns-clause-keeps
returns-clause-keeps c =
    let cells = c.args.self.now.list.items in
    let t = c.index_mut-taken.result.now in
    let there = slice_get_read cells
    (length cells) c.place_of-place.result t refl c.place_of-place.ensures.within c.index_mut-taken.ensures.value in
    let own = at_place cells c.args.key c.place_of-place.result t c.place_of-place.ensures.place there in
    let may = subst (λ (s : VersionedRows). MayChange c.args.change c.args.by c.args.key s) (sym own.0)
    (may_change c.args.change c.args.by cells c.args.key c.requires.held c.requires.may) in
    record {
      each = change_keeps cells t _ c.args.key c.place_of-place.result c.place_of-place.ensures.place there
          c.requires.held refl c.args.change c.args.by c.is_segment.ensures c.is_segment-2.ensures may
          c.change.ensures.changed c.change.ensures.spare refl refl
          c.have_words_changed-taken.ensures;
      room = refl;
    }
