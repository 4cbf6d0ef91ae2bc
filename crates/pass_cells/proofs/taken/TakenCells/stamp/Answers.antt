use Rattle.std.proofs.Common.{length, refl}
use Rattle.std.proofs.lemmas.Option.{slice_get_read}
use Rattle.pass_cells.proofs.StampLemmas.{stamps_count, stamps_keep, stamps_one}
use Rattle.pass_cells.proofs.taken.TakenCells.stamp.Goals as goal

pub returns-clause-stamped : goal.returns-clause-stamped
returns-clause-stamped c =
    let cells = c.args.self.now.list.items in
    let t = c.index_mut-taken.result.now in
    let there = slice_get_read cells
    (length cells) c.place_of-place.result t refl c.place_of-place.ensures.within c.index_mut-taken.ensures.value in
    stamps_one cells t _ c.args.key c.place_of-place.result c.place_of-place.ensures.place there c.requires refl
    c.args.by c.args.number c.stamp.ensures.stamped

pub returns-clause-count : goal.returns-clause-count
returns-clause-count c =
    let cells = c.args.self.now.list.items in
    let t = c.index_mut-taken.result.now in
    let there = slice_get_read cells
    (length cells) c.place_of-place.result t refl c.place_of-place.ensures.within c.index_mut-taken.ensures.value in
    stamps_count cells t _ c.args.key c.place_of-place.result c.place_of-place.ensures.place there c.requires refl
    c.args.by c.args.number c.stamp.ensures.stamped c.is_segment.ensures

pub returns-clause-keeps : goal.returns-clause-keeps
returns-clause-keeps c =
    let cells = c.args.self.now.list.items in
    let t = c.index_mut-taken.result.now in
    let there = slice_get_read cells
    (length cells) c.place_of-place.result t refl c.place_of-place.ensures.within c.index_mut-taken.ensures.value in
    record {
      each = stamps_keep cells t _ c.args.key c.place_of-place.result c.place_of-place.ensures.place there c.requires
          refl c.args.by c.args.number c.stamp.ensures.stamped c.is_segment.ensures c.is_segment-2.ensures refl refl refl;
      room = refl;
    }
