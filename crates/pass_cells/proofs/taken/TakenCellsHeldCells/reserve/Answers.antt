use Rattle.std.proofs.Common.{length, refl}
use Rattle.std.proofs.lemmas.Option.{slice_get_read}
use Rattle.std.proofs.lemmas.Result.{on_ok_weaker}
use Rattle.pass_cells.proofs.DoneLemmas.{reserve_done, reserve_keeps, reserve_spare}
use Rattle.pass_cells.proofs.taken.TakenCellsHeldCells.reserve.Goals as goal

pub returns-clause-ok : goal.returns-clause-ok
returns-clause-ok c =
    let cells = c.args.self.now.list.items in
    let t = c.index_mut.result.now in
    let there = slice_get_read cells
    (length cells) c.place_of-place.result t refl c.place_of-place.ensures.within c.index_mut.ensures.value in
    on_ok_weaker c.reserve.result
    (reserve_spare cells t _ c.args.key c.place_of-place.result c.place_of-place.ensures.place there c.requires
    refl c.reserve.ensures.kept c.reserve.ensures.spare) c.reserve.ensures.ok

pub returns-clause-reserves : goal.returns-clause-reserves
returns-clause-reserves c =
    let cells = c.args.self.now.list.items in
    let t = c.index_mut.result.now in
    let there = slice_get_read cells
    (length cells) c.place_of-place.result t refl c.place_of-place.ensures.within c.index_mut.ensures.value in
    reserve_done cells t _ c.args.key c.place_of-place.result c.place_of-place.ensures.place there c.requires refl
    c.reserve.ensures.kept c.reserve.ensures.spare

pub returns-clause-keeps : goal.returns-clause-keeps
returns-clause-keeps c =
    let cells = c.args.self.now.list.items in
    let t = c.index_mut.result.now in
    let there = slice_get_read cells
    (length cells) c.place_of-place.result t refl c.place_of-place.ensures.within c.index_mut.ensures.value in
    record {
      each = reserve_keeps cells t _ c.args.key c.place_of-place.result c.place_of-place.ensures.place there
          c.requires refl c.reserve.ensures.kept c.reserve.ensures.spare refl refl refl;
      room = refl;
    }
