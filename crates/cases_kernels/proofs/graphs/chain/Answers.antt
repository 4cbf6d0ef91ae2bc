use Rattle.std.proofs.Common.{ℕ, List, [], ◌∷◌, ◌∙◌, refl}
use Rattle.graph_image.proofs.GivenLemmas.{literal_fits}
use Rattle.cases_kernels.proofs.graphs.chain.Goals as goal

abbrev vertices : List ℕ
vertices = 1 ∷ 3 ∷ 7 ∷ 9 ∷ []

abbrev arcs : List ((ℕ × ℕ) × ℕ)
arcs = ((3, 9), 1) ∷ ((9, 1), 1) ∷ []

pub image_of-requires-clause-storable : goal.image_of-requires-clause-storable
image_of-requires-clause-storable c = (literal_fits c.as_slice.result.now vertices arcs (c.as_slice.ensures.value ∙ c.in_ok-rows.ensures) refl refl refl refl).0

pub image_of-requires-clause-ended : goal.image_of-requires-clause-ended
image_of-requires-clause-ended c = (literal_fits c.as_slice.result.now vertices arcs (c.as_slice.ensures.value ∙ c.in_ok-rows.ensures) refl refl refl refl).1
