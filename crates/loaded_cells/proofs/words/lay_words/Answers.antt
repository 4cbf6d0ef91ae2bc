use Rattle.std.proofs.Common.{◌<◌, arith, length}
use Rattle.loaded_cells.proofs.WordLemmas.{words_more}
use Rattle.loaded_cells.proofs.words.lay_words.Goals as goal

pub leaves-preserved : goal.leaves-preserved
leaves-preserved c =
    let leaves = c.args.leaves.now in
    let less : c.leaves.number < length leaves =
    let test = c.leaves-test.true in let end = c.leaves.auto.number-end in omega arith in
    words_more c.args.config.now leaves c.leaves.number _ c.leaves.words.items c.lay_leaf.new.words.items less
    c.leaves.invariant c.in_ok-lay_leaf.ensures
