use Rattle.std.proofs.Common.{[], ◌∷◌, ◌++◌, sym, ap, ◌∙◌}
use Rattle.kernel_cdlp.proofs.RoundLemmas.{range_more}
use Rattle.kernel_cdlp.proofs.rounds.first_labels.Goals as goal

pub places-preserved : goal.places-preserved
places-preserved c = c.in_ok-push.ensures.items ∙ ap (λ l. l ++ c.places.place ∷ []) c.places.invariant ∙ sym (range_more c.places.place)
