use Rattle.std.proofs.Common.{◌∙◌, ◌++◌, ◌+◌, ◌∷◌, [], ap, refl, append_assoc}
use Rattle.rule_model.specs.EndSteps.{zeros}
use Rattle.loaded_cells.proofs.WordLemmas.{zeros_more}
use Rattle.loaded_cells.proofs.words.push_zeros.Goals as goal

pub zeros-preserved : goal.zeros-preserved
zeros-preserved c =
    c.in_ok-push.ensures.items ∙ ap (λ l. l ++ 0 ∷ []) c.zeros.invariant
    ∙ append_assoc c.args.words.now.items (zeros c.zeros._word) (0 ∷ [])
    ∙ ap (λ l. c.args.words.now.items ++ l) (zeros_more c.zeros._word (c.zeros._word + 1) refl)
