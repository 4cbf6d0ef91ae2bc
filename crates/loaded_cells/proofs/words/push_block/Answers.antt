use Rattle.std.proofs.Common.{◌∙◌, ◌++◌, ◌∷◌, ◌-◌, ◌*◌, ℕ, List, [], ap, append_assoc, length}
use Rattle.rule_model.specs.CellsModel.Words.{flat}
use Rattle.rule_model.specs.EndSteps.{zeros}
use Rattle.loaded_cells.proofs.words.push_block.Goals as goal

pub returns : goal.returns
returns c =
    let rows = c.args.rows.now in
    let head : List ℕ = 0 ∷ length rows ∷ c.args.low.src ∷ c.args.low.second ∷ c.args.high.src ∷ c.args.high.second ∷ [] in
    let old = c.args.words.now.items in
    c.in_ok-push_tail.ensures ∙ ap (λ l. l ++ zeros (96 - 3 * length rows)) c.in_ok-push_rows.ensures
    ∙ ap (λ l. (l ++ flat rows) ++ zeros (96 - 3 * length rows)) c.in_ok-push_head.ensures
    ∙ append_assoc (old ++ head) (flat rows) (zeros (96 - 3 * length rows))
    ∙ append_assoc old head (flat rows ++ zeros (96 - 3 * length rows))
