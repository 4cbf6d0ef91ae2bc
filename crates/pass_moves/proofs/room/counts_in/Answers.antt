use Rattle.std.proofs.Common.{[], ◌∷◌, ◌∙◌, ap}
use Rattle.pass_leaves.proofs.LeafArray.EightLemmas.{eight}
use Rattle.pass_moves.proofs.KeyLemmas.{counts_values, rows_of_cell}
use Rattle.pass_moves.proofs.room.counts_in.Goals as goal

pub returns : goal.returns
returns c =
    (λ i. (c.count.ensures ∙ ap rows_of_cell c.first-item.is) i ∷ (c.count-2.ensures ∙ ap rows_of_cell c.second-item.is) i
    ∷ (c.count-3.ensures ∙ ap rows_of_cell c.third-item.is) i
    ∷ (c.count-4.ensures ∙ ap rows_of_cell c.fourth-item.is) i
    ∷ (c.count-5.ensures ∙ ap rows_of_cell c.fifth-item.is) i
    ∷ (c.count-6.ensures ∙ ap rows_of_cell c.sixth-item.is) i
    ∷ (c.count-7.ensures ∙ ap rows_of_cell c.seventh-item.is) i
    ∷ (c.count-8.ensures ∙ ap rows_of_cell c.eighth-item.is) i ∷ [])
    ∙ eight rows_of_cell c.args.cells.now _ _ _ _ _ _ _ _ c.requires ∙ counts_values c.args.cells.now
