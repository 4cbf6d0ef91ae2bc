-- What a search keeps when an arc is followed, when a visit is made, and when a bucket is settled.
use Rattle.std.proofs.Common.{◌≡◌, ℕ, ◌+◌, ◌/◌, ◌<◌, ◌≤◌, ◌^◌, ⊎_elim, List, [], ◌∷◌, ◌++◌, Option, None, Some, length, set, replicate, slice_get, refl, sym, ap, ◌∙◌, subst, arith}
use Rattle.std.specs.Prelude.{slice_index, sum_by, unwrap_or}
use Rattle.std.specs.Ordering.{nat_cmp}
use Rattle.std.specs.BTreeMap.{get}
use Rattle.std.proofs.Math.Nat.{div-le_self, div-mul-le_self}
use Rattle.std.proofs.lemmas.Nat.{le-div}
use Rattle.std.proofs.lemmas.Bool.{cases_eq, cases_lt}
use Rattle.std.proofs.lemmas.List.{length-append}
use Rattle.std.proofs.lemmas.List.Sums.{sum_by-set}
use Rattle.std.proofs.lemmas.Option.{same_Some, none-some, slice_get_within}
use Rattle.graph_model.specs.declared.limits.TheConstants.{MAX_WEIGHT}
use Rattle.graph_image.specs.declared.edge.Arc.{Arc}
use Rattle.graph_image.specs.Images.{Places, arcs_at}
use Rattle.graph_image.proofs.Lists.{get_pushed, get_last, get_push_cases, below_cases, only_one}
use Rattle.kernel_sssp.specs.declared.distances.TheConstants.{UNREACHED}
use Rattle.kernel_sssp.specs.Distances.{LinkOut, IsSearched, IsRelaxed}
use Rattle.kernel_sssp.specs.declared.buckets.Visit.{Visit}
use Rattle.kernel_sssp.specs.declared.buckets.Buckets.{Buckets}
use Rattle.kernel_sssp.specs.declared.search.BucketStage.{BucketStage}
use Rattle.kernel_sssp.specs.declared.search.BucketSearch.{BucketSearch}
use Rattle.kernel_sssp.specs.Buckets.{visits_in, HasNone, Puts, TakesFirst}
use Rattle.kernel_sssp.specs.Search.{AreRelaxedTo, AreRelaxed, IsVisit, IsVisited, IsSearch, IsSearchOf, spread, IsStart, IsPut, IsLowered, Follows, Steps, Advances}
use Rattle.kernel_sssp.proofs.WeightLemmas.{zero_reached, at_root, at_other, weights_start, sum_fits, sum_reached, kept_relaxed, lowered, here, there, p_other, keeps_relaxed, now_relaxed, lowered_weights, weights_done}

-- a greater distance is in no lower bucket
pub bucket_rises : (x y width : ℕ) → 0 < width → x ≤ y → x / width ≤ y / width
bucket_rises x y width wide le = le-div (x / width) y width wide (let low = div-mul-le_self x width in omega arith)

-- ---- what a bucket has

-- a visit that was there is there after another one was put
put_stays : (hand bucket : ℕ) (visit : Visit) (visits visits_new : List Visit) (later later_new : Buckets) → IsPut bucket hand visit visits later visits_new later_new → (k : ℕ) (v : Visit) → slice_get visits k ≡ Some v → slice_get visits_new k ≡ Some v
put_stays hand bucket visit visits visits_new later later_new put k v at = ⊎_elim
    (λ now. ap (λ l. slice_get l k) now.1 ∙ get_pushed visits visit k v at)
    (λ not_now. ap (λ l. slice_get l k) not_now.1 ∙ at)
    put

-- the visits of a bucket after another one was put
puts_visits : (bucket : ℕ) (visit : Visit) (old new : Buckets) → Puts bucket visit old new → visits_in new bucket ≡ visits_in old bucket ++ visit ∷ []
puts_visits bucket visit old new puts = ap (λ o. unwrap_or o []) puts.here

puts_others : (bucket : ℕ) (visit : Visit) (old new : Buckets) → Puts bucket visit old new → (x : ℕ) → (x ≡ bucket → ⊥) → visits_in new x ≡ visits_in old x
puts_others bucket visit old new puts x other = ap (λ o. unwrap_or o []) (puts.others x other)

later_stays : (hand bucket : ℕ) (visit : Visit) (visits visits_new : List Visit) (later later_new : Buckets) → IsPut bucket hand visit visits later visits_new later_new → (x k : ℕ) (v : Visit) → slice_get (visits_in later x) k ≡ Some v
    → slice_get (visits_in later_new x) k ≡ Some v
later_stays hand bucket visit visits visits_new later later_new put x k v at = ⊎_elim
    (λ now. ap (λ b. slice_get (visits_in b x) k) now.2 ∙ at)
    (λ not_now. ⊎_elim
    (λ same. ap (λ y. slice_get (visits_in later_new y) k) same ∙ ap (λ l. slice_get l k) (puts_visits bucket visit later later_new not_now.2) ∙ get_pushed (visits_in later bucket) visit k v (ap (λ y. slice_get (visits_in later y) k) (sym same) ∙ at))
    (λ other. ap (λ l. slice_get l k) (puts_others bucket visit later later_new not_now.2 x other) ∙ at)
    (cases_eq x bucket))
    put

-- ---- an arc that leads to a lesser distance

module _ (image : Places) (stage : BucketStage) (ds : List ℕ) (visits : List Visit) (later : Buckets) (is : IsSearch image stage ds visits later)
    (p k : ℕ) (a : Arc) (p_within : p < length image.vertices) (p_reached : slice_index ds p ≡ UNREACHED → ⊥) (p_bucket : slice_index ds p / stage.width ≡ stage.bucket)
    (at : slice_get (arcs_at image.out p) k ≡ Some a) (q_within : a.other < length image.vertices) (light : a.weight ≤ MAX_WEIGHT)
    (less : slice_index ds p + a.weight < slice_index ds a.other) where
  abbrev sum : ℕ
  sum = slice_index ds p + a.weight

  abbrev new_ds : List ℕ
  new_ds = lowered image stage.root ds is.weights p k a p_within p_reached at q_within light less

  here_is : slice_index new_ds a.other ≡ sum
  here_is = here image stage.root ds is.weights p k a p_within p_reached at q_within light less

  there_is : (r : ℕ) → (r ≡ a.other → ⊥) → slice_index new_ds r ≡ slice_index ds r
  there_is = there image stage.root ds is.weights p k a p_within p_reached at q_within light less

  still_relaxed : (r : ℕ) → (r ≡ a.other → ⊥) → AreRelaxed image ds r → AreRelaxed image new_ds r
  still_relaxed r other known j b at_j = keeps_relaxed image stage.root ds is.weights p k a p_within p_reached at q_within light less r b other (known j b at_j)

  -- the place's new bucket is the one at hand or a later one
  bucket_low : stage.bucket ≤ sum / stage.width
  bucket_low = let rise = bucket_rises (slice_index ds p) sum stage.width is.wide (omega arith) in omega arith

  module _ (visits_new : List Visit) (later_new : Buckets) (put : IsPut (sum / stage.width) stage.bucket (record { place = a.other; distance = sum }) visits later visits_new later_new) where
    visit_right : (bucket : ℕ) → sum / stage.width ≡ bucket → IsVisit (length image.vertices) stage.width bucket (record { place = a.other; distance = sum })
    visit_right bucket same = record { place_is = q_within; bucket_is = same; reached_is = sum_reached image stage.root ds is.weights p k a p_within p_reached at q_within light }

    new_bucket : (r : ℕ) → r ≡ a.other → slice_index new_ds r / stage.width ≡ sum / stage.width
    new_bucket r same = ap (λ x. x / stage.width) (ap (slice_index new_ds) same ∙ here_is)

    -- the place is visited in the bucket at hand
    place_here : (r : ℕ) → r ≡ a.other → slice_index new_ds r / stage.width ≡ stage.bucket → IsVisited image stage new_ds visits_new r
    place_here r same bucket = ⊎_elim
        (λ now. record {
          at = length visits;
          is = ap (λ l. slice_get l (length visits)) now.1 ∙ get_last visits (record { place = a.other; distance = sum }) ∙ ap Some (λ i. record { place = sym same i; distance = sym (ap (slice_index new_ds) same ∙ here_is) i });
          done = λ below. absurd (let few = is.made_few in omega arith);
        })
        (λ not_now. absurd (not_now.0 (sym (new_bucket r same) ∙ bucket)))
        put

    -- or in a later one
    place_there : (r : ℕ) → r ≡ a.other → stage.bucket < slice_index new_ds r / stage.width → (j : ℕ) × (slice_get (visits_in later_new (slice_index new_ds r / stage.width)) j ≡ Some (record { place = r; distance = slice_index new_ds r }))
    place_there r same bucket = ⊎_elim
        (λ now. absurd (let same_bucket = now.0 in let b = new_bucket r same in omega arith))
        (λ not_now. (
          length (visits_in later (sum / stage.width)),
          ap (λ x. slice_get (visits_in later_new x) (length (visits_in later (sum / stage.width)))) (new_bucket r same)
              ∙ ap (λ l. slice_get l (length (visits_in later (sum / stage.width)))) (puts_visits (sum / stage.width) (record { place = a.other; distance = sum }) later later_new not_now.2)
              ∙ get_last (visits_in later (sum / stage.width)) (record { place = a.other; distance = sum })
              ∙ ap Some (λ i. record { place = sym same i; distance = sym (ap (slice_index new_ds) same ∙ here_is) i }),
        ))
        put

    pub lowered_search : IsSearch image stage new_ds visits_new later_new
    lowered_search = record {
      weights = lowered_weights image stage.root ds is.weights p k a p_within p_reached at q_within light less;
      wide = is.wide;
      made_few = ⊎_elim
          (λ now. (let few = is.made_few in let l = ap length now.1 ∙ length-append visits (record { place = a.other; distance = sum } ∷ []) in omega arith))
          (λ not_now. (let few = is.made_few in let l = ap length not_now.1 in omega arith))
          put;
      settled = λ r within below. ⊎_elim
          (λ same. absurd (let b = new_bucket r same in let low = bucket_low in omega arith))
          (λ other. still_relaxed r other (is.settled r within (subst (λ d. d / stage.width < stage.bucket) (there_is r other) below)))
          (cases_eq r a.other);
      here = λ r within reaches bucket. ⊎_elim
          (λ same. place_here r same bucket)
          (λ other.
          let before = is.here r within (λ none. reaches (there_is r other ∙ none)) (ap (λ d. d / stage.width) (sym (there_is r other)) ∙ bucket) in
          record {
            at = before.at;
            is = put_stays stage.bucket (sum / stage.width) (record { place = a.other; distance = sum }) visits visits_new later later_new put before.at _ before.is ∙ ap (λ d. Some (record { place = r; distance = d })) (sym (there_is r other));
            done = λ below. still_relaxed r other (before.done below);
          })
          (cases_eq r a.other);
      there = λ r within reaches bucket. ⊎_elim
          (λ same. place_there r same bucket)
          (λ other. let d = there_is r other in
          let before = is.there r within (λ none. reaches (d ∙ none)) (subst (λ x. stage.bucket < x / stage.width) d bucket) in (
            before.0,
            subst (λ x. slice_get (visits_in later_new (x / stage.width)) before.0 ≡ Some (record { place = r; distance = x })) (sym d)
                (later_stays stage.bucket (sum / stage.width) (record { place = a.other; distance = sum }) visits visits_new later later_new put (slice_index ds r / stage.width) before.0 _ before.1),
          ))
          (cases_eq r a.other);
      above = λ x list at_x. ⊎_elim
          (λ now. is.above x list (ap (λ b. get nat_cmp b.lists x) (sym now.2) ∙ at_x))
          (λ not_now. ⊎_elim
          (λ same. (let low = bucket_low in ⊎_elim (λ less_now. subst (λ y. stage.bucket < y) (sym same) less_now) (λ le. absurd (not_now.0 (let e : sum / stage.width ≡ stage.bucket = omega arith in e))) (cases_lt stage.bucket (sum / stage.width))))
          (λ other. is.above x list (sym (not_now.2.others x other) ∙ at_x))
          (cases_eq x (sum / stage.width)))
          put;
      visits_right = λ j v at_j. ⊎_elim
          (λ now. ⊎_elim
          (λ before. is.visits_right j v before)
          (λ last. subst (IsVisit (length image.vertices) stage.width stage.bucket) last.1 (visit_right stage.bucket now.0))
          (get_push_cases visits (record { place = a.other; distance = sum }) j v (ap (λ l. slice_get l j) (sym now.1) ∙ at_j)))
          (λ not_now. is.visits_right j v (ap (λ l. slice_get l j) (sym not_now.1) ∙ at_j))
          put;
      later_right = λ x j v at_j. ⊎_elim
          (λ now. is.later_right x j v (ap (λ b. slice_get (visits_in b x) j) (sym now.2) ∙ at_j))
          (λ not_now. ⊎_elim
          (λ same. ⊎_elim
          (λ before. is.later_right x j v (ap (λ y. slice_get (visits_in later y) j) same ∙ before))
          (λ last. subst (IsVisit (length image.vertices) stage.width x) last.1 (visit_right x (sym same)))
          (get_push_cases (visits_in later (sum / stage.width)) (record { place = a.other; distance = sum }) j v
          (ap (λ l. slice_get l j) (sym (puts_visits (sum / stage.width) (record { place = a.other; distance = sum }) later later_new not_now.2)) ∙ ap (λ y. slice_get (visits_in later_new y) j) (sym same) ∙ at_j)))
          (λ other. is.later_right x j v (ap (λ l. slice_get l j) (sym (puts_others (sum / stage.width) (record { place = a.other; distance = sum }) later later_new not_now.2 x other)) ∙ at_j))
          (cases_eq x (sum / stage.width)))
          put;
    }

    -- the sum of the distances falls by at least the visit that came
    pub lowered_spread : sum_by (λ d. d) new_ds + length visits_new ≤ sum_by (λ d. d) ds + length visits
    lowered_spread =
        let s = sum_by-set (λ x. x) ds a.other sum 0 (let c = is.weights.count in omega arith) in
        ⊎_elim
        (λ now. (let l = ap length now.1 ∙ length-append visits (record { place = a.other; distance = sum } ∷ []) in omega arith))
        (λ not_now. (let l = ap length not_now.1 in omega arith))
        put

-- ---- the arcs of a visit so far

pub record IsFollowing (image : Places) (visit : Visit) (i : ℕ) (old s : BucketSearch) : Type 0 where
  pub search : IsSearchOf image s
  pub stage_is : s.stage ≡ old.stage
  pub here_is : slice_index s.distances.items visit.place ≡ visit.distance
  pub relaxed : AreRelaxedTo i image s.distances.items visit.place
  pub visits_stay : (k : ℕ) (v : Visit) → slice_get old.visits.items k ≡ Some v → slice_get s.visits.items k ≡ Some v
  pub no_more : spread s ≤ spread old

pub following_start : (image : Places) (visit : Visit) (old : BucketSearch) → IsSearchOf image old → slice_index old.distances.items visit.place ≡ visit.distance → IsFollowing image visit 0 old old
following_start image visit old is here_is = record {
  search = is;
  stage_is = refl;
  here_is = here_is;
  relaxed = λ k a below at. absurd (omega arith);
  visits_stay = λ k v at. at;
  no_more = omega arith;
}

module _ (image : Places) (visit : Visit) (i : ℕ) (old s : BucketSearch) (so_far : IsFollowing image visit i old s) (right : IsVisit (length image.vertices) old.stage.width old.stage.bucket visit)
    (a : Arc) (at : slice_get (arcs_at image.out visit.place) i ≡ Some a) (a_within : a.other < length image.vertices) (light : a.weight ≤ MAX_WEIGHT) where
  place_reached : slice_index s.distances.items visit.place ≡ UNREACHED → ⊥
  place_reached none = right.reached_is (sym so_far.here_is ∙ none)

  place_bucket : slice_index s.distances.items visit.place / s.stage.width ≡ s.stage.bucket
  place_bucket = (λ j. so_far.here_is j / (so_far.stage_is j).width) ∙ right.bucket_is ∙ ap (λ (t : BucketStage). t.bucket) (sym so_far.stage_is)

  pub following_fits : visit.distance + a.weight < UNREACHED
  following_fits = (let f = sum_fits image s.stage.root s.distances.items so_far.search.weights visit.place i a right.place_is place_reached at a_within light in let h = so_far.here_is in omega arith)

  same_arc : (k : ℕ) (b : Arc) → slice_get (arcs_at image.out visit.place) k ≡ Some b → k ≡ i → a ≡ b
  same_arc k b at_k now = same_Some a b (sym at ∙ ap (λ j. slice_get (arcs_at image.out visit.place) j) (sym now) ∙ at_k)

  -- past an arc that is relaxed
  following_same : IsRelaxed s.distances.items visit.place a → IsFollowing image visit (i + 1) old s
  following_same is = record {
    search = so_far.search;
    stage_is = so_far.stage_is;
    here_is = so_far.here_is;
    relaxed = λ k b below at_k. ⊎_elim
        (λ earlier. so_far.relaxed k b earlier at_k)
        (λ now. subst (IsRelaxed s.distances.items visit.place) (same_arc k b at_k now) is)
        (below_cases k i below);
    visits_stay = so_far.visits_stay;
    no_more = so_far.no_more;
  }

  pub following_kept : slice_index s.distances.items a.other ≤ visit.distance + a.weight → IsFollowing image visit (i + 1) old s
  following_kept le = following_same (kept_relaxed image s.stage.root s.distances.items so_far.search.weights visit.place i a right.place_is place_reached at a_within light
      (subst (λ d. slice_index s.distances.items a.other ≤ d + a.weight) (sym so_far.here_is) le))

  module _ (new : BucketSearch) (less : visit.distance + a.weight < slice_index s.distances.items a.other) (lowers : IsLowered a.other (visit.distance + a.weight) s new) where
    less_here : slice_index s.distances.items visit.place + a.weight < slice_index s.distances.items a.other
    less_here = subst (λ d. d + a.weight < slice_index s.distances.items a.other) (sym so_far.here_is) less

    put_here : IsPut ((slice_index s.distances.items visit.place + a.weight) / s.stage.width) s.stage.bucket (record { place = a.other; distance = slice_index s.distances.items visit.place + a.weight }) s.visits.items s.later new.visits.items new.later
    put_here = subst (λ d. IsPut ((d + a.weight) / s.stage.width) s.stage.bucket (record { place = a.other; distance = d + a.weight }) s.visits.items s.later new.visits.items new.later) (sym so_far.here_is) lowers.put

    distances_here : new.distances.items ≡ set s.distances.items a.other (slice_index s.distances.items visit.place + a.weight)
    distances_here = lowers.distances_are ∙ ap (λ d. set s.distances.items a.other (d + a.weight)) (sym so_far.here_is)

    relaxed_now : AreRelaxedTo (i + 1) image (set s.distances.items a.other (slice_index s.distances.items visit.place + a.weight)) visit.place
    relaxed_now k b below at_k = ⊎_elim
        (λ earlier. keeps_relaxed image s.stage.root s.distances.items so_far.search.weights visit.place i a right.place_is place_reached at a_within light less_here visit.place b
        (p_other image s.stage.root s.distances.items so_far.search.weights visit.place i a right.place_is place_reached at a_within light less_here) (so_far.relaxed k b earlier at_k))
        (λ now. subst (IsRelaxed (set s.distances.items a.other (slice_index s.distances.items visit.place + a.weight)) visit.place) (same_arc k b at_k now)
        (now_relaxed image s.stage.root s.distances.items so_far.search.weights visit.place i a right.place_is place_reached at a_within light less_here))
        (below_cases k i below)

    pub following_lowered : IsFollowing image visit (i + 1) old new
    following_lowered = record {
      search = subst (λ (t : BucketStage). IsSearch image t new.distances.items new.visits.items new.later) (sym lowers.stage_is)
          (subst (λ ds. IsSearch image s.stage ds new.visits.items new.later) (sym distances_here)
          (lowered_search image s.stage s.distances.items s.visits.items s.later so_far.search visit.place i a right.place_is place_reached place_bucket at a_within light less_here new.visits.items new.later put_here));
      stage_is = lowers.stage_is ∙ so_far.stage_is;
      here_is = ap (λ ds. slice_index ds visit.place) distances_here
          ∙ there image s.stage.root s.distances.items so_far.search.weights visit.place i a right.place_is place_reached at a_within light less_here visit.place
          (p_other image s.stage.root s.distances.items so_far.search.weights visit.place i a right.place_is place_reached at a_within light less_here)
          ∙ so_far.here_is;
      relaxed = subst (λ ds. AreRelaxedTo (i + 1) image ds visit.place) (sym distances_here) relaxed_now;
      visits_stay = λ k v at_k. put_stays s.stage.bucket _ _ s.visits.items new.visits.items s.later new.later put_here k v (so_far.visits_stay k v at_k);
      no_more = (let d = ap (sum_by (λ x. x)) distances_here in
          let l = lowered_spread image s.stage s.distances.items s.visits.items s.later so_far.search visit.place i a right.place_is place_reached place_bucket at a_within light less_here new.visits.items new.later put_here in
          let m = so_far.no_more in omega arith);
    }

-- past all arcs
pub followed : (image : Places) (visit : Visit) (i : ℕ) (old s : BucketSearch) → IsFollowing image visit i old s → length (arcs_at image.out visit.place) ≤ i → Follows image visit old s
followed image visit i old s so_far all = record {
  search = so_far.search;
  stage_is = so_far.stage_is;
  relaxed = λ same k a at. so_far.relaxed k a (let below = slice_get_within (arcs_at image.out visit.place) k a at in omega arith) at;
  visits_stay = so_far.visits_stay;
  no_more = so_far.no_more;
}

-- a visit that doesn't count
pub not_followed : (image : Places) (visit : Visit) (old : BucketSearch) → IsSearchOf image old → (slice_index old.distances.items visit.place ≡ visit.distance → ⊥) → Follows image visit old old
not_followed image visit old is other = record {
  search = is;
  stage_is = refl;
  relaxed = λ same. absurd (other same);
  visits_stay = λ k v at. at;
  no_more = omega arith;
}

-- ---- one visit more

module _ (image : Places) (visit : Visit) (old mid : BucketSearch) (follows : Follows image visit old mid) where
  -- a place that is visited by this visit has its arcs relaxed
  relaxed_by : (n p : ℕ) → slice_get old.visits.items n ≡ Some visit → slice_get mid.visits.items n ≡ Some (record { place = p; distance = slice_index mid.distances.items p }) → AreRelaxed image mid.distances.items p
  relaxed_by n p at is =
      let same : visit ≡ record { place = p; distance = slice_index mid.distances.items p } = same_Some visit (record { place = p; distance = slice_index mid.distances.items p }) (sym (follows.visits_stay n visit at) ∙ is) in
      let place : visit.place ≡ p = ap (λ (v : Visit). v.place) same in
      let distance : visit.distance ≡ slice_index mid.distances.items p = ap (λ (v : Visit). v.distance) same in
      subst (AreRelaxed image mid.distances.items) place (follows.relaxed (ap (slice_index mid.distances.items) place ∙ sym distance))

pub stepped : (image : Places) (visit : Visit) (old mid : BucketSearch) → slice_get old.visits.items old.stage.made ≡ Some visit → Follows image visit old mid → Steps image old (record mid { stage = record mid.stage { made = mid.stage.made + 1 } })
stepped image visit old mid at follows =
    let is = follows.search in
    let stage = follows.stage_is in
    let made_is : mid.stage.made ≡ old.stage.made = ap (λ (t : BucketStage). t.made) stage in
    let below = slice_get_within mid.visits.items old.stage.made visit (follows.visits_stay old.stage.made visit at) in
    record {
      search = record {
        weights = is.weights;
        wide = is.wide;
        made_few = omega arith;
        settled = is.settled;
        here = λ p within reaches bucket. (let v = is.here p within reaches bucket in record {
          at = v.at;
          is = v.is;
          done = λ low. ⊎_elim
              (λ earlier. v.done earlier)
              (λ now. relaxed_by image visit old mid follows v.at p (ap (slice_get old.visits.items) (now ∙ made_is) ∙ at) v.is)
              (below_cases v.at mid.stage.made low);
        });
        there = is.there;
        above = is.above;
        visits_right = is.visits_right;
        later_right = is.later_right;
      };
      root_is = ap (λ (t : BucketStage). t.root) stage;
      bucket_is = ap (λ (t : BucketStage). t.bucket) stage;
      nearer = (let m = follows.no_more in omega arith);
    }

-- ---- a bucket that is settled

-- a bucket with a visit is in use
in_use : (buckets : Buckets) (x k : ℕ) (v : Visit) (list : Option (List Visit)) → get nat_cmp buckets.lists x ≡ list → slice_get (visits_in buckets x) k ≡ Some v → (visits : List Visit) × (get nat_cmp buckets.lists x ≡ Some visits)
in_use buckets x k v None none at = absurd (none-some v (ap (λ o. slice_get (unwrap_or o []) k) (sym none) ∙ at))
in_use buckets x k v (Some list) some at = (list, some)

module _ (image : Places) (stage : BucketStage) (ds : List ℕ) (visits : List Visit) (later : Buckets) (is : IsSearch image stage ds visits later) (all : length visits ≤ stage.made) where
  -- the arcs out of places below all later buckets are relaxed
  pub relaxed_below : (bound : ℕ) → ((x : ℕ) (list : List Visit) → get nat_cmp later.lists x ≡ Some list → bound ≤ x) → (p : ℕ) → p < length image.vertices → slice_index ds p / stage.width < bound → AreRelaxed image ds p
  relaxed_below bound least p within low k a at is_reached =
      ⊎_elim
      (λ before. is.settled p within before k a at is_reached)
      (λ not_before. ⊎_elim
      (λ same.
      let v = is.here p within is_reached same in
      let below = slice_get_within visits v.at _ v.is in
      v.done (omega arith) k a at is_reached)
      (λ other.
      let after = is.there p within is_reached (omega arith) in
      let used = in_use later (slice_index ds p / stage.width) after.0 _ (get nat_cmp later.lists (slice_index ds p / stage.width)) refl after.1 in
      let high = least (slice_index ds p / stage.width) used.0 used.1 in
      absurd (omega arith))
      (cases_eq (slice_index ds p / stage.width) stage.bucket))
      (cases_lt (slice_index ds p / stage.width) stage.bucket)

  -- with no later bucket, all is done
  pub search_done : HasNone later → IsSearched (LinkOut image) stage.root (length image.vertices) ds
  search_done none = weights_done image stage.root ds is.weights
      (λ p k a within at. relaxed_below (slice_index ds p / stage.width + 1) (λ x list some. absurd (none-some list (sym (none x) ∙ some))) p within (omega arith) k a at)

  module _ (bucket : ℕ) (visits_new : List Visit) (later_new : Buckets) (takes : TakesFirst bucket visits_new later later_new) where
    rises : stage.bucket < bucket
    rises = is.above bucket visits_new takes.was

    taken : visits_in later bucket ≡ visits_new
    taken = ap (λ o. unwrap_or o []) takes.was

    others_stay : (x : ℕ) → (x ≡ bucket → ⊥) → visits_in later_new x ≡ visits_in later x
    others_stay x other = ap (λ o. unwrap_or o []) (takes.others x other)

    pub next_search : IsSearch image (record stage { bucket = bucket; made = 0 }) ds visits_new later_new
    next_search = record {
      weights = is.weights;
      wide = is.wide;
      made_few = omega arith;
      settled = λ p within low. relaxed_below bucket takes.least p within low;
      here = λ p within reaches same. (let before = is.there p within reaches (let r = rises in omega arith) in record {
        at = before.0;
        is = ap (λ l. slice_get l before.0) (sym taken ∙ ap (visits_in later) (sym same)) ∙ before.1;
        done = λ low. absurd (omega arith);
      });
      there = λ p within reaches high.
          let before = is.there p within reaches (let r = rises in omega arith) in
          (before.0, ap (λ l. slice_get l before.0) (others_stay (slice_index ds p / stage.width) (λ same. absurd (omega arith))) ∙ before.1);
      above = λ x list at. ⊎_elim
          (λ same. absurd (none-some list (sym takes.gone ∙ ap (get nat_cmp later_new.lists) (sym same) ∙ at)))
          (λ other. (let least = takes.least x list (sym (takes.others x other) ∙ at) in ⊎_elim (λ less. less) (λ le. absurd (other (let e : x ≡ bucket = omega arith in e))) (cases_lt bucket x)))
          (cases_eq x bucket);
      visits_right = λ k v at. is.later_right bucket k v (ap (λ l. slice_get l k) taken ∙ at);
      later_right = λ x k v at. ⊎_elim
          (λ same. absurd (none-some v (ap (λ o. slice_get (unwrap_or o []) k) (sym takes.gone) ∙ ap (λ y. slice_get (visits_in later_new y) k) (sym same) ∙ at)))
          (λ other. is.later_right x k v (ap (λ l. slice_get l k) (sym (others_stay x other)) ∙ at))
          (cases_eq x bucket);
    }

-- after the first of the later buckets is at hand
pub advanced : (image : Places) (old new : BucketSearch) → IsSearchOf image old → length old.visits.items ≤ old.stage.made → Advances old new → IsSearchOf image new
advanced image old new is all next = subst (λ (t : BucketStage). IsSearch image t new.distances.items new.visits.items new.later) (sym next.stage_is)
    (subst (λ ds. IsSearch image (record old.stage { bucket = new.stage.bucket; made = 0 }) ds new.visits.items new.later) (sym next.distances_are)
    (next_search image old.stage old.distances.items old.visits.items old.later is all new.stage.bucket new.visits.items new.later next.takes))

-- and that is a higher one
pub advanced_bucket : (image : Places) (old new : BucketSearch) → IsSearchOf image old → Advances old new → old.stage.bucket < new.stage.bucket
advanced_bucket image old new is next = is.above new.stage.bucket new.visits.items next.takes.was

-- ---- the start

nothing_in : (buckets : Buckets) → HasNone buckets → (x k : ℕ) (v : Visit) → slice_get (visits_in buckets x) k ≡ Some v → ⊥
nothing_in buckets none x k v at = none-some v (ap (λ o. slice_get (unwrap_or o []) k) (sym (none x)) ∙ at)

zero_bucket : (width d : ℕ) → d ≡ 0 → d / width ≡ 0
zero_bucket width d zero_is = (let low = div-le_self d width in omega arith)

begun : (image : Places) (root width : ℕ) (later : Buckets) → length image.vertices < 2 ^ 32 → root < length image.vertices → 0 < width → HasNone later
    → IsSearch image (record { root = root; width = width; bucket = 0; made = 0 }) (set (replicate (length image.vertices) UNREACHED) root 0) (record { place = root; distance = 0 } ∷ []) later
begun image root width later few below wide none =
    let n = length image.vertices in
    let ds = set (replicate n UNREACHED) root 0 in
    record {
      weights = weights_start image root few below;
      wide = wide;
      made_few = omega arith;
      settled = λ p within low. absurd (omega arith);
      here = λ p within reaches bucket. ⊎_elim
          (λ same. record {
            at = 0;
            is = ap Some (λ i. record { place = sym same i; distance = sym (ap (slice_index ds) same ∙ at_root n root below) i });
            done = λ low. absurd (omega arith);
          })
          (λ other. absurd (reaches (at_other n root below p within other)))
          (cases_eq p root);
      there = λ p within reaches high. ⊎_elim
          (λ same. absurd (let z = zero_bucket width (slice_index ds p) (ap (slice_index ds) same ∙ at_root n root below) in omega arith))
          (λ other. absurd (reaches (at_other n root below p within other)))
          (cases_eq p root);
      above = λ x list at. absurd (none-some list (sym (none x) ∙ at));
      visits_right = λ k v at. subst (IsVisit n width 0) (only_one (record { place = root; distance = 0 }) k v at) (record { place_is = below; bucket_is = zero_bucket width 0 refl; reached_is = zero_reached 0 refl });
      later_right = λ x k v at. absurd (nothing_in later none x k v at);
    }

pub started : (image : Places) (root width : ℕ) (s : BucketSearch) → length image.vertices < 2 ^ 32 → root < length image.vertices → 0 < width → IsStart (length image.vertices) root width s → IsSearchOf image s
started image root width s few below wide start = subst (λ (t : BucketStage). IsSearch image t s.distances.items s.visits.items s.later) (sym start.stage_is)
    (subst (λ ds. IsSearch image (record { root = root; width = width; bucket = 0; made = 0 }) ds s.visits.items s.later) (sym start.distances_are)
    (subst (λ vs. IsSearch image (record { root = root; width = width; bucket = 0; made = 0 }) (set (replicate (length image.vertices) UNREACHED) root 0) vs s.later) (sym start.visits_are)
    (begun image root width s.later few below wide start.later_none)))
