-- Rising lists with the same members are one: the arcs at a place lead to the neighbours of its vertex.
use Rattle.std.proofs.Common.{◌≡◌, ℕ, zero, suc, ◌<◌, ◌≤◌, List, [], ◌∷◌, Bool, true, map, length, slice_get, Some, refl, sym, ap, ◌∙◌, arith}
use Rattle.std.specs.Prelude.{slice_index}
use Rattle.std.specs.List.{filter}
use Rattle.std.proofs.lemmas.Option.{same_Some, none-some, get_or_from_slice_get}
use Rattle.graph_model.specs.Graph.{Graph, has_arc}
use Rattle.graph_model.specs.Labels.{targets, sources}
use Rattle.graph_image.specs.declared.edge.Arc.{Arc}
use Rattle.graph_image.specs.Images.{Places, IdsRise, LeadsBy, AreArcs, IsImageOf, arcs_at}
use Rattle.graph_image.proofs.Lists.{get_map, map_get, get_filter, filter_get, get_filter_pair}
use Rattle.graph_image.proofs.ImageLemmas.{arc_leads, leads_arc}

-- numbers rise from place to place
abbrev pub Rises : List ℕ → Type 0
Rises xs = (i j a b : ℕ) → i < j → slice_get xs i ≡ Some a → slice_get xs j ≡ Some b → a < b

first_is_least : (y : ℕ) (ys : List ℕ) → Rises (y ∷ ys) → (j x : ℕ) → slice_get (y ∷ ys) j ≡ Some x → y ≤ x
first_is_least y ys rise zero x at = let same = same_Some y x at in omega arith
first_is_least y ys rise (suc j) x at = let less = rise 0 (suc j) y x (omega arith) refl at in omega arith

in_tail : (y : ℕ) (ys : List ℕ) (j v : ℕ) → y < v → slice_get (y ∷ ys) j ≡ Some v → (k : ℕ) × (slice_get ys k ≡ Some v)
in_tail y ys zero v less at = absurd (let same = same_Some y v at in omega arith)
in_tail y ys (suc j) v less at = (j, at)

-- rising lists with the same members are one
pub same_rising : (xs ys : List ℕ) → Rises xs → Rises ys → ((i x : ℕ) → slice_get xs i ≡ Some x → (j : ℕ) × (slice_get ys j ≡ Some x))
    → ((j y : ℕ) → slice_get ys j ≡ Some y → (i : ℕ) × (slice_get xs i ≡ Some y)) → xs ≡ ys
same_rising [] [] rise_x rise_y to from = refl
same_rising [] (y ∷ ys) rise_x rise_y to from = absurd (let there = from 0 y refl in none-some y there.1)
same_rising (x ∷ xs) [] rise_x rise_y to from = absurd (let there = to 0 x refl in none-some x there.1)
same_rising (x ∷ xs) (y ∷ ys) rise_x rise_y to from =
    let over = to 0 x refl in
    let back = from 0 y refl in
    let low = first_is_least y ys rise_y over.0 x over.1 in
    let high = first_is_least x xs rise_x back.0 y back.1 in
    let head : x ≡ y = omega arith in
    let rest = same_rising xs ys (λ i j a b less at_i at_j. rise_x (suc i) (suc j) a b (omega arith) at_i at_j) (λ i j a b less at_i at_j. rise_y (suc i) (suc j) a b (omega arith) at_i at_j)
    (λ i v at. let there = to (suc i) v at in let less = rise_x 0 (suc i) x v (omega arith) refl at in in_tail y ys there.0 v (omega arith) there.1)
    (λ j v at. let there = from (suc j) v at in let less = rise_y 0 (suc j) y v (omega arith) refl at in in_tail x xs there.0 v (omega arith) there.1) in
    (λ i. head i ∷ rest i)

-- the ids at the other ends of arcs
abbrev pub ids_met : List ℕ → List Arc → List ℕ
ids_met vertices arcs = map (λ (a : Arc). slice_index vertices a.other) arcs

-- the arcs to the vertices that pass a test have these as their ids
ids_pass : (vertices : List ℕ) → IdsRise vertices → (Holds : ℕ → ℕ → Type 0) (arcs : List Arc) → AreArcs Holds arcs → (p : ℕ → Bool)
    → ((q weight : ℕ) → Holds q weight → (u : ℕ) × (slice_get vertices q ≡ Some u) × (p u ≡ true))
    → ((q u : ℕ) → slice_get vertices q ≡ Some u → p u ≡ true → (weight : ℕ) × Holds q weight)
    → ids_met vertices arcs ≡ filter p vertices
ids_pass vertices ids Holds arcs are p to from =
    let id : Arc → ℕ = λ a. slice_index vertices a.other in
    let at_end : (k x : ℕ) → slice_get (ids_met vertices arcs) k ≡ Some x → (a : Arc) × (slice_get arcs k ≡ Some a) × (slice_get vertices a.other ≡ Some x) × (p x ≡ true) = λ k x at.
    let arc = get_map id arcs k x at in
    let there = to arc.0.other arc.0.weight (are.sound k arc.0 arc.1) in
    let same : there.0 ≡ x = sym (get_or_from_slice_get vertices arc.0.other there.0 0 there.1) ∙ arc.2 in
    (arc.0, arc.1, there.1 ∙ ap Some same, ap p (sym same) ∙ there.2) in
    same_rising (ids_met vertices arcs) (filter p vertices)
    (λ i j a b less at_i at_j. let x = at_end i a at_i in let y = at_end j b at_j in ids.rise x.0.other y.0.other a b (are.rise i j x.0 y.0 less x.1 y.1) x.2 y.2)
    (λ i j a b less at_i at_j. let both = get_filter_pair p vertices i j a b less at_i at_j in ids.rise both.first both.second a b both.rise both.first_at both.second_at)
    (λ i x at. let arc = at_end i x at in filter_get p vertices arc.0.other x arc.2 arc.3)
    (λ j y at.
    let kept = get_filter p vertices j y at in
    let leads = from kept.at y kept.is kept.passes in
    let arc = are.complete kept.at leads.0 leads.1 in
    (arc.0, map_get id arcs arc.0 _ arc.1 ∙ ap Some (get_or_from_slice_get vertices kept.at y 0 kept.is)))

module _ (image : Places) (g : Graph) (is : IsImageOf image g) (p v : ℕ) (at : slice_get image.vertices p ≡ Some v) (within : p < length image.vertices) where
  -- the other ends of the arcs out are the targets of the vertex
  pub others_are_targets : ids_met image.vertices (arcs_at image.out p) ≡ targets g v
  others_are_targets =
      ids_pass image.vertices is.ids (λ q weight. LeadsBy g image.vertices p q weight) (arcs_at image.out p) (is.out p within) (λ u. has_arc g v u)
      (λ q weight leads. (leads.to, leads.to_at, leads_arc image g is v leads.to p q (weight, leads) at leads.to_at))
      (λ q u there arc. arc_leads image g is v u p q arc at there)
      ∙ ap (filter (λ u. has_arc g v u)) is.vertices

  -- those of the arcs in its sources
  pub others_are_sources : ids_met image.vertices (arcs_at image.into p) ≡ sources g v
  others_are_sources =
      ids_pass image.vertices is.ids (λ q weight. LeadsBy g image.vertices q p weight) (arcs_at image.into p) (is.into p within) (λ u. has_arc g u v)
      (λ q weight leads. (leads.from, leads.from_at, leads_arc image g is leads.from v q p (weight, leads) leads.from_at at))
      (λ q u there arc. arc_leads image g is u v q p arc there at)
      ∙ ap (filter (λ u. has_arc g u v)) is.vertices
