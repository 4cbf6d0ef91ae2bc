-- Distances, visits and buckets, and what a search keeps.
use Rattle.std.specs.Prelude.{◌≡◌, ℕ, ◌+◌, ◌*◌, ◌/◌, ◌<◌, ◌≤◌, ◌^◌, ◌⊎◌, List, [], ◌∷◌, ◌++◌, length, sum_by, replicate, slice_index, slice_get, slice_set, Some, None}
use Rattle.std.specs.Ordering.{nat_cmp}
use Rattle.std.specs.BTreeMap.{get}
use Rattle.graph_model.specs.declared.limits.TheConstants.{MAX_WEIGHT}
use Rattle.graph_image.specs.declared.edge.Arc.{Arc}
use Rattle.graph_image.specs.Images.{Places, arcs_at}
use Rattle.graph_image.specs.Paths.{HasPathBy}
use Rattle.kernel_sssp.specs.declared.distances.TheConstants.{UNREACHED}
use Rattle.kernel_sssp.specs.Distances.{LinkOut, IsRelaxed, reached}
use Rattle.kernel_sssp.specs.declared.buckets.Visit.{Visit}
use Rattle.kernel_sssp.specs.declared.buckets.Buckets.{Buckets}
use Rattle.kernel_sssp.specs.declared.search.BucketStage.{BucketStage}
use Rattle.kernel_sssp.specs.declared.search.BucketSearch.{BucketSearch}
use Rattle.kernel_sssp.specs.Buckets.{visits_in, Puts, TakesFirst}

-- The distances are the weights of paths, and no greater than the number of reached places allows.
pub record AreWeights (image : Places) (root : ℕ) (distances : List ℕ) : Type 0 where
  pub few : length image.vertices < 2 ^ 32
  pub count : length distances ≡ length image.vertices
  pub start : slice_index distances root ≡ 0
  pub sound : (p : ℕ) → p < length image.vertices → (slice_index distances p ≡ UNREACHED → ⊥)
      → (k : ℕ) × HasPathBy (LinkOut image) root k p (slice_index distances p)
  pub bound : (p : ℕ) → p < length image.vertices → (slice_index distances p ≡ UNREACHED → ⊥)
      → slice_index distances p + MAX_WEIGHT ≤ reached distances * MAX_WEIGHT

-- the arcs out of the place, up to the n-th, lead nowhere at a lesser distance than what is known
abbrev pub AreRelaxedTo : ℕ → Places → List ℕ → ℕ → Type 0
AreRelaxedTo n image distances p = (k : ℕ) (a : Arc) → k < n → slice_get (arcs_at image.out p) k ≡ Some a
    → IsRelaxed distances p a

-- all of them
abbrev pub AreRelaxed : Places → List ℕ → ℕ → Type 0
AreRelaxed image distances p = (k : ℕ) (a : Arc) → slice_get (arcs_at image.out p) k ≡ Some a → IsRelaxed distances p a

-- a visit of one of the first n places, at a distance that is of the bucket
pub record IsVisit (n width bucket : ℕ) (visit : Visit) : Type 0 where
  pub place_is : visit.place < n
  pub bucket_is : visit.distance / width ≡ bucket
  pub reached_is : visit.distance ≡ UNREACHED → ⊥

-- the place is among the visits, with its distance; its arcs are relaxed if that visit was made
pub record IsVisited (image : Places) (stage : BucketStage) (distances : List ℕ) (visits : List Visit) (p : ℕ) : Type 0 where
  pub at : ℕ
  pub is : slice_get visits at ≡ Some (record { place = p; distance = slice_index distances p })
  pub done : at < stage.made → AreRelaxed image distances p

-- Settled up to the bucket: the arcs out of places of lower buckets are relaxed, the places of the bucket
-- are among its visits, and those of higher ones in their buckets.
pub record IsSearch (image : Places) (stage : BucketStage) (distances : List ℕ) (visits : List Visit) (later : Buckets)
    : Type 0 where
  pub weights : AreWeights image stage.root distances
  pub wide : 0 < stage.width
  pub made_few : stage.made ≤ length visits
  pub settled : (p : ℕ) → p < length image.vertices → slice_index distances p / stage.width < stage.bucket
      → AreRelaxed image distances p
  pub here : (p : ℕ) → p < length image.vertices → (slice_index distances p ≡ UNREACHED → ⊥)
      → slice_index distances p / stage.width ≡ stage.bucket → IsVisited image stage distances visits p
  pub there : (p : ℕ) → p < length image.vertices → (slice_index distances p ≡ UNREACHED → ⊥)
      → stage.bucket < slice_index distances p / stage.width → (k : ℕ)
      × (slice_get (visits_in later (slice_index distances p / stage.width)) k
      ≡ Some (record { place = p; distance = slice_index distances p }))
  pub above : (x : ℕ) (list : List Visit) → get nat_cmp later.lists x ≡ Some list → stage.bucket < x
  pub visits_right : (k : ℕ) (v : Visit) → slice_get visits k ≡ Some v
      → IsVisit (length image.vertices) stage.width stage.bucket v
  pub later_right : (x k : ℕ) (v : Visit) → slice_get (visits_in later x) k ≡ Some v
      → IsVisit (length image.vertices) stage.width x v

abbrev pub IsSearchOf : Places → BucketSearch → Type 0
IsSearchOf image s = IsSearch image s.stage s.distances.items s.visits.items s.later

-- it rises with no arc that is followed: a lesser distance takes away what the visit that it brings adds
abbrev pub spread : BucketSearch → ℕ
spread s = sum_by (λ d. d) s.distances.items + length s.visits.items

-- ---- steps

-- just the root is reached, and is to be visited
pub record IsStart (n root width : ℕ) (s : BucketSearch) : Type 0 where
  pub stage_is : s.stage ≡ record { root = root; width = width; bucket = 0; made = 0 }
  pub distances_are : s.distances.items ≡ slice_set (replicate n UNREACHED) root 0
  pub visits_are : s.visits.items ≡ record { place = root; distance = 0 } ∷ []
  pub later_none : (x : ℕ) → get nat_cmp s.later.lists x ≡ None

-- the visit stands behind the others of its bucket
abbrev pub IsPut : ℕ → ℕ → Visit → List Visit → Buckets → List Visit → Buckets → Type 0
IsPut bucket hand visit visits later visits_new later_new =
    ((bucket ≡ hand) × (visits_new ≡ visits ++ visit ∷ []) × (later_new ≡ later))
    ⊎ ((bucket ≡ hand → ⊥) × (visits_new ≡ visits) × Puts bucket visit later later_new)

-- the place has this distance, and is to be visited
pub record IsLowered (place distance : ℕ) (old new : BucketSearch) : Type 0 where
  pub stage_is : new.stage ≡ old.stage
  pub distances_are : new.distances.items ≡ slice_set old.distances.items place distance
  pub put : IsPut (distance / old.stage.width) old.stage.bucket (record { place = place; distance = distance })
      old.visits.items old.later new.visits.items new.later

-- the arcs are followed where the visit counts; visits come behind those that were there
pub record Follows (image : Places) (visit : Visit) (old new : BucketSearch) : Type 0 where
  pub search : IsSearchOf image new
  pub stage_is : new.stage ≡ old.stage
  pub relaxed : slice_index new.distances.items visit.place ≡ visit.distance
      → AreRelaxed image new.distances.items visit.place
  pub visits_stay : (k : ℕ) (v : Visit) → slice_get old.visits.items k ≡ Some v → slice_get new.visits.items k ≡ Some v
  pub no_more : spread new ≤ spread old

-- one visit more is made
pub record Steps (image : Places) (old new : BucketSearch) : Type 0 where
  pub search : IsSearchOf image new
  pub root_is : new.stage.root ≡ old.stage.root
  pub bucket_is : new.stage.bucket ≡ old.stage.bucket
  pub nearer : spread new + old.stage.made < spread old + new.stage.made

-- all visits of the bucket are made
pub record Settles (image : Places) (old new : BucketSearch) : Type 0 where
  pub search : IsSearchOf image new
  pub root_is : new.stage.root ≡ old.stage.root
  pub bucket_is : new.stage.bucket ≡ old.stage.bucket
  pub all : length new.visits.items ≤ new.stage.made

-- the first of the later buckets is at hand, and none of its visits is made
pub record Advances (old new : BucketSearch) : Type 0 where
  pub stage_is : new.stage ≡ record old.stage { bucket = new.stage.bucket; made = 0 }
  pub bucket_small : new.stage.bucket < 2 ^ 64
  pub distances_are : new.distances.items ≡ old.distances.items
  pub takes : TakesFirst new.stage.bucket new.visits.items old.later new.later
