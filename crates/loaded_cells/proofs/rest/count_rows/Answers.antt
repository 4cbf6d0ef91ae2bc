use Rattle.std.proofs.Common.{◌<◌, arith, length}
use Rattle.loaded_cells.proofs.WordLemmas.{counts_more}
use Rattle.loaded_cells.proofs.rest.count_rows.Goals as goal

pub leaves-preserved : goal.leaves-preserved
leaves-preserved c =
    let leaves = c.args.leaves.now in
    let less : c.leaves.number < length leaves =
    let test = c.leaves-test.true in let end = c.leaves.auto.number-end in omega arith in
    counts_more leaves c.leaves.number _ c.leaves.counts.items c.count_leaf.new.counts.items less c.leaves.invariant
    c.in_ok-count_leaf.ensures
