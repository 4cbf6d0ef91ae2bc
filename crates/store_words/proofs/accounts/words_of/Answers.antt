use Rattle.std.proofs.Common.{◌∙◌, ◌++◌, ◌+◌, ◌*◌, ap, append_assoc}
use Rattle.rule_model.specs.EndSteps.{new_block, new_blocks, zeros}
use Rattle.store_words.specs.Opening.{empty_block}
use Rattle.store_words.proofs.OpeningLemmas.{blocks_so_far}
use Rattle.store_words.proofs.accounts.words_of.Goals as goal

pub cells-preserved : goal.cells-preserved
cells-preserved c =
    let head = zeros (16 + 16 * c.args.config.now.passes) in
    let n = c.cells.cell in
    c.in_ok-push_block.ensures
    ∙ (λ i. c.cells.invariant i ++ empty_block (c.low_of.ensures i))
    ∙ append_assoc head (new_blocks 0 n) (new_block n)
    ∙ ap (λ l. head ++ l) (blocks_so_far n)
