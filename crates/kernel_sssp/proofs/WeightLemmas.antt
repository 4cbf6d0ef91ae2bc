-- What is known of distances, at first and when one is lowered.
use Rattle.std.proofs.Common.{◌≡◌, ℕ, zero, suc, ◌+◌, ◌*◌, ◌<◌, ◌≤◌, ◌^◌, ⊎_elim, List, length, set, replicate, slice_get, Some, sym, ap, ◌∙◌, subst, arith}
use Rattle.std.specs.Prelude.{slice_index}
use Rattle.std.proofs.lemmas.Bool.{cases_eq}
use Rattle.std.proofs.lemmas.List.{length-set, length-replicate, get_or-replicate, get_or-set_same, get_or-set_other}
use Rattle.graph_model.specs.declared.limits.TheConstants.{MAX_WEIGHT}
use Rattle.graph_image.specs.declared.edge.Arc.{Arc}
use Rattle.graph_image.specs.Images.{Places, arcs_at}
use Rattle.graph_image.specs.Paths.{HasPathBy}
use Rattle.kernel_sssp.specs.declared.distances.TheConstants.{UNREACHED}
use Rattle.kernel_sssp.specs.Distances.{LinkOut, IsSearched, IsRelaxed, reached}
use Rattle.kernel_sssp.proofs.ReachedLemmas.{reached_some, reached_few, reached_more, reached_same}
use Rattle.kernel_sssp.specs.Search.{AreWeights}

-- zero is a distance
pub zero_reached : (d : ℕ) → d ≡ 0 → d ≡ UNREACHED → ⊥
zero_reached d zero_is none = absurd (omega arith)

-- ---- the start

module _ (n root : ℕ) (below : root < n) where
  -- only the root is reached
  pub at_root : slice_index (set (replicate n UNREACHED) root 0) root ≡ 0
  at_root = get_or-set_same (replicate n UNREACHED) root 0 0 (let long = length-replicate n UNREACHED in omega arith)

  pub at_other : (p : ℕ) → p < n → (p ≡ root → ⊥) → slice_index (set (replicate n UNREACHED) root 0) p ≡ UNREACHED
  at_other p within other = get_or-set_other (replicate n UNREACHED) root p 0 0 other ∙ get_or-replicate n p UNREACHED 0 within

pub weights_start : (image : Places) (root : ℕ) → length image.vertices < 2 ^ 32 → root < length image.vertices → AreWeights image root (set (replicate (length image.vertices) UNREACHED) root 0)
weights_start image root few below =
    let n = length image.vertices in
    let ds = set (replicate n UNREACHED) root 0 in
    let long : length ds ≡ n = length-set (replicate n UNREACHED) root 0 ∙ length-replicate n UNREACHED in
    record {
      few = few;
      count = long;
      start = at_root n root below;
      sound = λ p within is. ⊎_elim
          (λ same. (0, (sym same, ap (slice_index ds) same ∙ at_root n root below)))
          (λ other. absurd (is (at_other n root below p within other)))
          (cases_eq p root);
      bound = λ p within is. ⊎_elim
          (λ same. (let zero_is = ap (slice_index ds) same ∙ at_root n root below in let some = reached_some ds p (omega arith) is in omega arith))
          (λ other. absurd (is (at_other n root below p within other)))
          (cases_eq p root);
    }

-- ---- a lesser distance

module _ (image : Places) (root : ℕ) (ds : List ℕ) (are : AreWeights image root ds) (p k : ℕ) (a : Arc) (p_within : p < length image.vertices) (p_reached : slice_index ds p ≡ UNREACHED → ⊥)
    (at : slice_get (arcs_at image.out p) k ≡ Some a) (q_within : a.other < length image.vertices) (light : a.weight ≤ MAX_WEIGHT) where
  -- the sum is a distance
  pub sum_fits : slice_index ds p + a.weight < UNREACHED
  sum_fits =
      let b = are.bound p p_within p_reached in
      let r = reached_few ds in
      let c = are.count in
      let f = are.few in
      omega arith

  pub sum_reached : slice_index ds p + a.weight ≡ UNREACHED → ⊥
  sum_reached same = (let f = sum_fits in absurd (omega arith))

  -- an arc that leads nowhere at a lesser distance is relaxed
  pub kept_relaxed : slice_index ds a.other ≤ slice_index ds p + a.weight → IsRelaxed ds p a
  kept_relaxed le is_reached = ((λ none. absurd (let f = sum_fits in omega arith)), le)

  module _ (less : slice_index ds p + a.weight < slice_index ds a.other) where
    abbrev pub lowered : List ℕ
    lowered = set ds a.other (slice_index ds p + a.weight)

    q_in : a.other < length ds
    q_in = let c = are.count in omega arith

    pub here : slice_index lowered a.other ≡ slice_index ds p + a.weight
    here = get_or-set_same ds a.other (slice_index ds p + a.weight) 0 q_in

    pub there : (r : ℕ) → (r ≡ a.other → ⊥) → slice_index lowered r ≡ slice_index ds r
    there r other = get_or-set_other ds a.other r (slice_index ds p + a.weight) 0 other

    -- no distance is greater than before
    pub no_greater : (r : ℕ) → slice_index lowered r ≤ slice_index ds r
    no_greater r = ⊎_elim
        (λ same. let h = here in let n = ap (slice_index lowered) same in let o = ap (slice_index ds) same in omega arith)
        (λ other. let t = there r other in omega arith)
        (cases_eq r a.other)

    -- the place of the arc keeps its distance
    pub p_other : p ≡ a.other → ⊥
    p_other same = (let o = ap (slice_index ds) same in absurd (omega arith))

    -- reached places stay reached
    pub stays : (r : ℕ) → (slice_index ds r ≡ UNREACHED → ⊥) → slice_index lowered r ≡ UNREACHED → ⊥
    stays r was none = ⊎_elim
        (λ same. sum_reached (sym here ∙ ap (slice_index lowered) (sym same) ∙ none))
        (λ other. was (sym (there r other) ∙ none))
        (cases_eq r a.other)

    -- what was relaxed out of another place still is
    pub keeps_relaxed : (r : ℕ) (b : Arc) → (r ≡ a.other → ⊥) → IsRelaxed ds r b → IsRelaxed lowered r b
    keeps_relaxed r b other known is_reached =
        let d = there r other in
        let before = known (λ none. is_reached (d ∙ none)) in
        (stays b.other before.0, (let low = before.1 in let g = no_greater b.other in omega arith))

    -- and the arc is relaxed now
    pub now_relaxed : IsRelaxed lowered p a
    now_relaxed is_reached = ((λ none. sum_reached (sym here ∙ none)), (let h = here in let d = there p p_other in omega arith))

    -- the number of reached places allows the sum
    count_after : (reached ds ≤ reached lowered) × (slice_index ds p + a.weight + MAX_WEIGHT ≤ reached lowered * MAX_WEIGHT)
    count_after = ⊎_elim
        (λ fresh. (let more = reached_more ds a.other (slice_index ds p + a.weight) q_in sum_reached fresh in let b = are.bound p p_within p_reached in (omega arith, omega arith)))
        (λ known. (let same = reached_same ds a.other (slice_index ds p + a.weight) q_in sum_reached known in let b = are.bound a.other q_within known in (omega arith, omega arith)))
        (cases_eq (slice_index ds a.other) UNREACHED)

    pub lowered_weights : AreWeights image root lowered
    lowered_weights = record {
      few = are.few;
      count = length-set ds a.other (slice_index ds p + a.weight) ∙ are.count;
      start = (let low = no_greater root in let z = are.start in let same : slice_index lowered root ≡ 0 = omega arith in same);
      sound = λ r within reaches. ⊎_elim
          (λ same.
          let path = are.sound p p_within p_reached in
          (suc path.0, (p, slice_index ds p, a.weight, path.1, (p_within, k, at ∙ ap Some (λ i. record { other = sym same i; weight = a.weight })), ap (slice_index lowered) same ∙ here)))
          (λ other.
          let path = are.sound r within (λ none. reaches (there r other ∙ none)) in
          (path.0, subst (λ d. HasPathBy (LinkOut image) root path.0 r d) (sym (there r other)) path.1))
          (cases_eq r a.other);
      bound = λ r within reaches. (let c = count_after in ⊎_elim
          (λ same. (let h = ap (slice_index lowered) same ∙ here in let more = c.1 in omega arith))
          (λ other. (let b = are.bound r within (λ none. reaches (there r other ∙ none)) in let t = there r other in let more = c.0 in omega arith))
          (cases_eq r a.other));
    }

-- ---- the end

-- where all arcs are relaxed, no path has a lesser weight
module _ (image : Places) (root : ℕ) (ds : List ℕ) (start : slice_index ds root ≡ 0) (relaxed : (p k : ℕ) (a : Arc) → p < length image.vertices → slice_get (arcs_at image.out p) k ≡ Some a → IsRelaxed ds p a) where
  pub all_found : (k p weight : ℕ) → HasPathBy (LinkOut image) root k p weight → (slice_index ds p ≡ UNREACHED → ⊥) × (slice_index ds p ≤ weight)
  all_found zero p weight path =
      let zero_is : slice_index ds p ≡ 0 = ap (slice_index ds) (sym path.0) ∙ start in
      (zero_reached (slice_index ds p) zero_is, omega arith)
  all_found (suc k) p weight path =
      let link = path.4 in
      let before = all_found k path.0 path.1 path.3 in
      let known = relaxed path.0 link.1 (record { other = p; weight = path.2 }) link.0 link.2 before.0 in
      let low = before.1 in
      let step = known.1 in
      let total = path.5 in
      (known.0, omega arith)

pub weights_done : (image : Places) (root : ℕ) (ds : List ℕ) → AreWeights image root ds → ((p k : ℕ) (a : Arc) → p < length image.vertices → slice_get (arcs_at image.out p) k ≡ Some a → IsRelaxed ds p a) → IsSearched (LinkOut image) root (length image.vertices) ds
weights_done image root ds are relaxed = record {
  count = are.count;
  sound = are.sound;
  least = λ k p weight path. (all_found image root ds are.start relaxed k p weight path).1;
  found = λ k p weight path. (all_found image root ds are.start relaxed k p weight path).0;
}
