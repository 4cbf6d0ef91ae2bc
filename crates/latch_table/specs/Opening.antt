-- A new latch table, how its passes are dealt and come back, and how it is closed.
use Rattle.std.specs.Prelude.{◌≡◌, ℕ, zero, suc, ◌<◌, List, [], ◌∷◌, ◌++◌, drop, take, Some, None, slice_get}
use Rattle.seat_views.specs.Keeping.{kept_at}
use Rattle.latch_table.specs.declared.sight.LatchSight.{LatchSight}

-- the passes below a number, the last one first, none of which holds a cell
abbrev pub idle_below : ℕ → List (ℕ × List ℕ)
idle_below zero = []
idle_below (suc p) = (p, []) ∷ idle_below p

module _ {K : Type 0} where
  -- the view of a new table's seat, which has all passes
  abbrev pub first_sight : ℕ → K → LatchSight K
  first_sight passes k = record { key = Some k; passes = idle_below passes; looks = []; stored = [] }

  -- the first pass of a view, and the others
  abbrev pub first_pass : LatchSight K → LatchSight K
  first_pass v = record { key = v.key; passes = take 1 v.passes; looks = []; stored = [] }

  abbrev pub other_passes : LatchSight K → LatchSight K
  other_passes v = record v { passes = drop 1 v.passes }

  -- a view that has taken in another, and what is left of that one
  abbrev pub merged : LatchSight K → LatchSight K → LatchSight K
  merged v w = record v { passes = w.passes ++ v.passes }

  abbrev pub spent : LatchSight K
  spent = record { key = None; passes = []; looks = []; stored = [] }

  -- the passes below a number are still to be dealt
  pub record HasPasses (k : K) (count : ℕ) (v : LatchSight K) : Type 0 where
    pub key : v.key ≡ Some k
    pub passes : v.passes ≡ idle_below count

  -- a pass is in the view, and holds no cell
  abbrev pub IsBack : LatchSight K → ℕ → Type 0
  IsBack v p = kept_at v.passes p ≡ Some []

  -- all passes are
  abbrev pub IsWhole : ℕ → LatchSight K → Type 0
  IsWhole passes v = (p : ℕ) → p < passes → IsBack v p

-- each value fits its slot
abbrev pub AreFit : {S : Type 0} → (ℕ → S → Type 0) → List S → Type 0
AreFit {S} fits values = (c : ℕ) (value : S) → slice_get values c ≡ Some value → fits c value
