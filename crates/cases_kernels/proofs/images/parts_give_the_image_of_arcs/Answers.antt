use Rattle.std.proofs.Common.{ℕ, List, [], ◌∷◌, ◌∙◌, refl}
use Rattle.graph_image.proofs.GivenLemmas.{literal_fits}
use Rattle.cases_kernels.proofs.images.parts_give_the_image_of_arcs.Goals as goal

abbrev vertices : List ℕ
vertices = 1 ∷ 2 ∷ 3 ∷ []

abbrev arcs : List ((ℕ × ℕ) × ℕ)
arcs = ((1, 3), 1) ∷ ((2, 1), 1) ∷ ((3, 1), 1) ∷ []

pub assert_same_in_parts-requires-clause-storable : goal.assert_same_in_parts-requires-clause-storable
assert_same_in_parts-requires-clause-storable g c κs = (literal_fits c.as_slice.result.now vertices arcs (c.as_slice.ensures.value ∙ c.in_ok-rows.ensures) refl refl refl refl).0

pub assert_same_in_parts-requires-clause-ended : goal.assert_same_in_parts-requires-clause-ended
assert_same_in_parts-requires-clause-ended g c κs = (literal_fits c.as_slice.result.now vertices arcs (c.as_slice.ensures.value ∙ c.in_ok-rows.ensures) refl refl refl refl).1
