-- Rounds over places are rounds over vertices.
use Rattle.std.proofs.Common.{◌≡◌, ℕ, zero, suc, ◌+◌, ◌<◌, List, [], ◌∷◌, ◌++◌, map, length, take, slice_get, Some, refl, sym, ap, ◌∙◌, subst, arith, add-one}
use Rattle.std.specs.Prelude.{slice_index}
use Rattle.std.specs.List.{range_with_len}
use Rattle.std.proofs.lemmas.List.FromFn.{map-range_with_len_more, get_or-range_with_len, length-range_with_len}
use Rattle.std.proofs.lemmas.List.{map-append, map-id}
use Rattle.std.proofs.lemmas.Option.{slice_get_within, get_or_from_slice_get}
use Rattle.graph_model.specs.declared.write.Kind.TheVariants.{Directed, Undirected}
use Rattle.graph_model.specs.declared.table.Entry.{Entry}
use Rattle.graph_model.specs.declared.table.Value.TheVariants.{Number}
use Rattle.graph_model.specs.Graph.{Graph, IsSymmetric}
use Rattle.graph_model.specs.Tables.{IsCdlp, IsCdlpValue}
use Rattle.graph_model.proofs.LabelLemmas.{label-twice}
use Rattle.graph_image.specs.Entries.{AreEntries}
use Rattle.graph_image.proofs.PathLemmas.{table_right}
use Rattle.graph_model.specs.Labels.{targets, sources, label, most_frequent}
use Rattle.graph_image.specs.declared.edge.Arc.{Arc}
use Rattle.graph_image.specs.Images.{Places, AreWithin, IsImageOf, arcs_at}
use Rattle.graph_image.proofs.Lists.{get_map}
use Rattle.graph_image.proofs.ImageLemmas.{vertex_at}
use Rattle.kernel_cdlp.specs.Frequency.{IsMostFrequentOr}
use Rattle.kernel_cdlp.specs.Rounds.{labels_met, IsNextLabel, IsRound, AreBelow, AreLabels, IsLinked, value_of}
use Rattle.kernel_cdlp.proofs.FrequencyLemmas.{stands_at, doubled, risen, is_most_frequent_of}
use Rattle.kernel_cdlp.proofs.RisingLemmas.{ids_met, others_are_targets, others_are_sources}

-- ---- labels stay places

-- what holds of two lists' elements holds of those of both
each_of_both : (P : ℕ → Type 0) (xs ys : List ℕ) → ((i x : ℕ) → slice_get xs i ≡ Some x → P x) → ((i y : ℕ) → slice_get ys i ≡ Some y → P y) → (i z : ℕ) → slice_get (xs ++ ys) i ≡ Some z → P z
each_of_both P [] ys of_x of_y i z at = of_y i z at
each_of_both P (x ∷ xs) ys of_x of_y zero z at = of_x 0 z at
each_of_both P (x ∷ xs) ys of_x of_y (suc i) z at = each_of_both P xs ys (λ j w there. of_x (suc j) w there) of_y i z at

met_below : (n : ℕ) (labels : List ℕ) (arcs : List Arc) → AreBelow n labels → AreWithin n arcs → (i y : ℕ) → slice_get (labels_met labels arcs) i ≡ Some y → y < n
met_below n labels arcs below within i y at =
    let arc = get_map (λ (a : Arc). slice_index labels a.other) arcs i y at in
    subst (λ z. z < n) arc.2 (below.each arc.0.other (within i arc.0 arc.1))

most_below : (n default x : ℕ) (xs : List ℕ) → default < n → ((i y : ℕ) → slice_get xs i ≡ Some y → y < n) → IsMostFrequentOr default xs x → x < n
most_below n default x [] less below is = subst (λ z. z < n) (sym is) less
most_below n default x (z ∷ zs) less below is = let at = stands_at (z ∷ zs) x is.stands in below at.0 x at.1

-- the label of a place after a round is a place
pub next_is_below : (n : ℕ) (labels : List ℕ) (out into : List Arc) (p x : ℕ) → AreBelow n labels → AreWithin n out → AreWithin n into → p < n
    → IsMostFrequentOr (slice_index labels p) (labels_met labels out ++ labels_met labels into) x → x < n
next_is_below n labels out into p x below within_out within_into within is =
    most_below n (slice_index labels p) x (labels_met labels out ++ labels_met labels into) (below.each p within)
    (each_of_both (λ y. y < n) (labels_met labels out) (labels_met labels into) (met_below n labels out below within_out) (met_below n labels into below within_into)) is

-- what next_label has met makes the label
module _ (image : Places) (labels : List ℕ) (p x : ℕ) (below : AreBelow (length image.vertices) labels) (within : p < length image.vertices)
    (out into : List Arc) (out_is : out ≡ arcs_at image.out p) (into_is : into ≡ arcs_at image.into p)
    (out_within : AreWithin (length image.vertices) out) (into_within : AreWithin (length image.vertices) into) where
  next_of : IsMostFrequentOr (slice_index labels p) (labels_met labels out ++ labels_met labels into) x → IsNextLabel image labels p x
  next_of most = record {
    most = λ linked. subst (λ arcs. IsMostFrequentOr (slice_index labels p) (labels_met labels arcs ++ labels_met labels (arcs_at image.into p)) x) out_is
        (subst (λ arcs. IsMostFrequentOr (slice_index labels p) (labels_met labels out ++ labels_met labels arcs) x) into_is most);
    below = next_is_below (length image.vertices) labels out into p x below out_within into_within within most;
  }

  module _ (old met : List ℕ) (met_out : take (0 + length out) met ≡ take 0 old ++ labels_met labels out) where
    met_first : take (length out) met ≡ labels_met labels out
    met_first = ap (λ n. take n met) (let same : length out ≡ 0 + length out = omega arith in same) ∙ met_out

    -- the labels of the arcs out, where these are the arcs in as well
    pub next_once : out ≡ into → IsMostFrequentOr (slice_index labels p) (take (length out) met) x → IsNextLabel image labels p x
    next_once same most = next_of (subst (λ arcs. IsMostFrequentOr (slice_index labels p) (labels_met labels out ++ labels_met labels arcs) x) same
        (doubled (slice_index labels p) x (labels_met labels out) (subst (λ l. IsMostFrequentOr (slice_index labels p) l x) met_first most)))

    -- the labels of both
    pub next_both : (later : List ℕ) → take (length out + length into) later ≡ take (length out) met ++ labels_met labels into
        → IsMostFrequentOr (slice_index labels p) (take (length out + length into) later) x → IsNextLabel image labels p x
    next_both later met_into most = next_of (subst (λ l. IsMostFrequentOr (slice_index labels p) l x) (met_into ∙ ap (λ l. l ++ labels_met labels into) met_first) most)

-- the arcs of a graph's image are linked
linked_of : (image : Places) (g : Graph) → IsImageOf image g → IsLinked image
linked_of image g is = record {
  out = λ p k a within at.
      let leads = (is.out p within).sound k a at in
      (is.into a.other (slice_get_within image.vertices a.other leads.to leads.to_at)).complete p a.weight leads;
  into = λ p k a within at.
      let leads = (is.into p within).sound k a at in
      (is.out a.other (slice_get_within image.vertices a.other leads.from leads.from_at)).complete p a.weight leads;
}

pub round_below : (image : Places) (old new : List ℕ) → IsRound image old new → AreBelow (length image.vertices) new
round_below image old new round = record { count = round.count; each = λ p within. (round.each p within).below }

-- ---- labels of vertices

pub first_below : (n : ℕ) → AreBelow n (range_with_len 0 n)
first_below n = record { count = length-range_with_len 0 n; each = λ p within. (let at = get_or-range_with_len 0 n p 0 within in omega arith) }

-- one place more
pub range_more : (n : ℕ) → range_with_len 0 (n + 1) ≡ range_with_len 0 n ++ n ∷ []
range_more n = sym (map-id (range_with_len 0 (n + 1))) ∙ map-range_with_len_more (λ x. x) 0 n n (omega arith) ∙ ap (λ l. l ++ n ∷ []) (map-id (range_with_len 0 n))

-- before the first round each label is its place
pub labels_first : (g : Graph) (vertices : List ℕ) → AreLabels g vertices 0 (range_with_len 0 (length vertices))
labels_first g vertices p v at =
    let place : slice_index (range_with_len 0 (length vertices)) p ≡ p = get_or-range_with_len 0 (length vertices) p 0 (slice_get_within vertices p v at) ∙ omega arith in
    ap (slice_get vertices) place ∙ at

module _ (image : Places) (g : Graph) (is : IsImageOf image g) (rounds : ℕ) (old new : List ℕ) (below : AreBelow (length image.vertices) old)
    (labels : AreLabels g image.vertices rounds old) (round : IsRound image old new) where
  -- the ids of the labels that are met are the labels of the vertices at the other ends
  ids_of_met : (arcs : List Arc) → AreWithin (length image.vertices) arcs
      → map (λ p. slice_index image.vertices p) (labels_met old arcs) ≡ map (label Directed g rounds) (ids_met image.vertices arcs)
  ids_of_met [] within = refl
  ids_of_met (a ∷ arcs) within =
      let at = vertex_at image g is a.other (within 0 a refl) in
      let here = get_or_from_slice_get image.vertices (slice_index old a.other) (label Directed g rounds (slice_index image.vertices a.other)) 0 (labels a.other (slice_index image.vertices a.other) at) in
      (λ i. here i ∷ ids_of_met arcs (λ k b there. within (suc k) b there) i)

  rise : (x y : ℕ) → x < y → y < length image.vertices → slice_index image.vertices x < slice_index image.vertices y
  rise x y less within = is.ids.rise x y (slice_index image.vertices x) (slice_index image.vertices y) less (vertex_at image g is x (omega arith)) (vertex_at image g is y within)

  -- after one more round the labels are those of one more round
  pub labels_more : AreLabels g image.vertices (rounds + 1) new
  labels_more p v at =
      let within = slice_get_within image.vertices p v at in
      let out = arcs_at image.out p in
      let into = arcs_at image.into p in
      let out_within : AreWithin (length image.vertices) out = λ k a there. (let leads = (is.out p within).sound k a there in slice_get_within image.vertices a.other leads.to leads.to_at) in
      let into_within : AreWithin (length image.vertices) into = λ k a there. (let leads = (is.into p within).sound k a there in slice_get_within image.vertices a.other leads.from leads.from_at) in
      let f : ℕ → ℕ = λ q. slice_index image.vertices q in
      let met = labels_met old out ++ labels_met old into in
      let next = round.each p within in
      let most = risen f (length image.vertices) rise (slice_index old p) (slice_index new p) met
      (each_of_both (λ y. y < length image.vertices) (labels_met old out) (labels_met old into) (met_below (length image.vertices) old out below out_within) (met_below (length image.vertices) old into below into_within)) (next.most (linked_of image g is)) in
      let own : f (slice_index old p) ≡ label Directed g rounds v = get_or_from_slice_get image.vertices (slice_index old p) (label Directed g rounds v) 0 (labels p v at) in
      let near : map f met ≡ map (label Directed g rounds) (targets g v ++ sources g v) =
      map-append f (labels_met old out) (labels_met old into)
      ∙ (λ i. ids_of_met out out_within i ++ ids_of_met into into_within i)
      ∙ (λ i. map (label Directed g rounds) (others_are_targets image g is p v at within i) ++ map (label Directed g rounds) (others_are_sources image g is p v at within i))
      ∙ sym (map-append (label Directed g rounds) (targets g v) (sources g v)) in
      let value : label Directed g (suc rounds) v ≡ f (slice_index new p) = sym (λ i. most_frequent (own i) (near i)) ∙ is_most_frequent_of (f (slice_index old p)) (f (slice_index new p)) (map f met) most in
      vertex_at image g is (slice_index new p) next.below ∙ ap Some (sym value) ∙ ap (λ n. Some (label Directed g n v)) (sym (add-one rounds))

-- ---- the table

-- the ids of the labels make the table, of the graph with its directions
pub directed_table : (image : Places) (g : Graph) → IsImageOf image g → (rounds : ℕ) (labels : List ℕ) (table : List Entry)
    → AreLabels g image.vertices rounds labels → AreEntries image.vertices (map (value_of image.vertices) labels) table → IsCdlp Directed g rounds table
directed_table image g is rounds labels table are entries = table_right image g is (IsCdlpValue Directed g rounds) (map (value_of image.vertices) labels) table entries
    (λ p v x at value.
    let there = get_map (value_of image.vertices) labels p x value in
    let placed = ap (slice_get image.vertices) (sym (get_or_from_slice_get labels p there.0 0 there.1)) ∙ are p v at in
    sym there.2 ∙ ap Number (get_or_from_slice_get image.vertices there.0 (label Directed g rounds v) 0 placed))

-- and where it is symmetric, of the graph without
pub undirected_table : (g : Graph) (rounds : ℕ) (table : List Entry) → IsSymmetric g → IsCdlp Directed g rounds table → IsCdlp Undirected g rounds table
undirected_table g rounds table symmetric is = record {
  vertices = is.vertices;
  values = λ i e at. is.values i e at ∙ ap Number (label-twice g rounds e.vertex symmetric);
}
