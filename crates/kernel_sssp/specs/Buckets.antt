-- Buckets of visits.
use Rattle.std.specs.Prelude.{◌≡◌, ℕ, ◌≤◌, List, [], ◌∷◌, ◌++◌, Some, None, unwrap_or}
use Rattle.std.specs.Ordering.{nat_cmp}
use Rattle.std.specs.BTreeMap.{get}
use Rattle.kernel_sssp.specs.declared.buckets.Visit.{Visit}
use Rattle.kernel_sssp.specs.declared.buckets.Buckets.{Buckets}

-- what stands in a bucket
abbrev pub visits_in : Buckets → ℕ → List Visit
visits_in buckets bucket = unwrap_or (get nat_cmp buckets.lists bucket) []

-- no bucket is in use
abbrev pub HasNone : Buckets → Type 0
HasNone buckets = (x : ℕ) → get nat_cmp buckets.lists x ≡ None

-- the bucket has one visit more, and the others are as they were
pub record Puts (bucket : ℕ) (visit : Visit) (old new : Buckets) : Type 0 where
  pub here : get nat_cmp new.lists bucket ≡ Some (visits_in old bucket ++ visit ∷ [])
  pub others : (x : ℕ) → (x ≡ bucket → ⊥) → get nat_cmp new.lists x ≡ get nat_cmp old.lists x

-- the least bucket in use, with these visits, isn't in use any more, and the others are as they were
pub record TakesFirst (bucket : ℕ) (visits : List Visit) (old new : Buckets) : Type 0 where
  pub was : get nat_cmp old.lists bucket ≡ Some visits
  pub least : (x : ℕ) (list : List Visit) → get nat_cmp old.lists x ≡ Some list → bucket ≤ x
  pub gone : get nat_cmp new.lists bucket ≡ None
  pub others : (x : ℕ) → (x ≡ bucket → ⊥) → get nat_cmp new.lists x ≡ get nat_cmp old.lists x
