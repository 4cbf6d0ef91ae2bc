use Rattle.std.proofs.Common.{length, refl}
use Rattle.std.proofs.lemmas.Option.{slice_get_read}
use Rattle.shared_store.proofs.LoadLemmas.{cells_stay, first_has_begun, seats_stay}
use Rattle.shared_store.proofs.load.note_load.Goals as goal

pub returns-clause-begun : goal.returns-clause-begun
returns-clause-begun c =
    let list = c.args.list.now.items in
    let x = c.index_mut.result.now in
    let there = slice_get_read list (length list) 0 x refl c.requires.some c.index_mut.ensures.value in
    first_has_begun list x _ there refl refl refl refl refl c.requires.fresh

pub returns-clause-seats : goal.returns-clause-seats
returns-clause-seats c =
    let list = c.args.list.now.items in
    let x = c.index_mut.result.now in
    let there = slice_get_read list (length list) 0 x refl c.requires.some c.index_mut.ensures.value in
    seats_stay list x _ there refl refl refl refl refl

pub returns-clause-cells : goal.returns-clause-cells
returns-clause-cells c =
    let list = c.args.list.now.items in
    let x = c.index_mut.result.now in
    let there = slice_get_read list (length list) 0 x refl c.requires.some c.index_mut.ensures.value in
    cells_stay list x _ there refl refl refl refl refl
