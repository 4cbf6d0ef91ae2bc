use Rattle.std.proofs.Common.{◌<◌, arith, length}
use Rattle.loaded_cells.proofs.WordLemmas.{rows_more}
use Rattle.loaded_cells.proofs.words.push_rows.Goals as goal

pub rows-preserved : goal.rows-preserved
rows-preserved c =
    let rows = c.args.rows.now in
    let p = c.rows.place in
    let less : p < length rows = let test = c.rows-test.true in let end = c.rows.auto.place-end in omega arith in
    rows_more c.args.words.now.items c.rows.words.items c.push_row.new.words.items rows p _ c.rows.invariant less
    c.in_ok-push_row.ensures
