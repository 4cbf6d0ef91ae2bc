-- Sorted rows between fence keys.
use Rattle.std.specs.Prelude.{◌≡◌, ℕ, zero, suc, ◌≤◌, true, false, List, [], ◌∷◌, ◌++◌, length, take, drop, slice_get, IsSomeAnd}
use Rattle.std.specs.List.{filter, AllByRecursion}
use Rattle.std.specs.declared.result.Result.{Result}
use Rattle.std.specs.declared.result.Result.TheVariants.{Ok, Err}
use Rattle.graph_model.specs.declared.row.Key.{Key}
use Rattle.graph_model.specs.declared.row.Row.{Row}
use Rattle.graph_model.specs.Rows.{is_below, is_between}

-- rows from the low fence key on and below the high one
pub record FencedRows : Type 0 where
  pub low : Key
  pub high : Key
  pub rows : List Row

-- the rows' keys are all below this one
abbrev pub AreBelow : Key → List Row → Type 0
AreBelow key rows = AllByRecursion (λ r. is_below r.key key ≡ true) rows

-- none of them is
abbrev pub AreNotBelow : Key → List Row → Type 0
AreNotBelow key rows = AllByRecursion (λ r. is_below r.key key ≡ false) rows

-- the rows' keys are all above this one
abbrev pub AreAbove : Key → List Row → Type 0
AreAbove key rows = AllByRecursion (λ r. is_below key r.key ≡ true) rows

-- each key is below all later ones
abbrev pub AreSorted : List Row → Type 0
AreSorted [] = Unit {0}
AreSorted (r ∷ rs) = AreAbove r.key rs × AreSorted rs

-- each row stands from the low fence key on and below the high one
abbrev pub AreWithin : Key → Key → List Row → Type 0
AreWithin low high rows = AllByRecursion (λ r. is_between low high r.key ≡ true) rows

pub record AreFenced (s : FencedRows) : Type 0 where
  pub fences : is_below s.high s.low ≡ false
  pub sorted : AreSorted s.rows
  pub within : AreWithin s.low s.high s.rows

-- the rows before the place are those below the key
pub record IsPlaceOf (rows : List Row) (key : Key) (place : ℕ) : Type 0 where
  pub within : place ≤ length rows
  pub before : AreBelow key (take place rows)
  pub behind : AreNotBelow key (drop place rows)

-- a row with this key may stand at the place: those before it are below the key, and those behind it above
pub record IsGapFor (rows : List Row) (key : Key) (place : ℕ) : Type 0 where
  pub within : place ≤ length rows
  pub before : AreBelow key (take place rows)
  pub behind : AreAbove key (drop place rows)

-- the place of the key's row, or the one where it would stand
abbrev pub IsFound : List Row → Key → Result ℕ ℕ → Type 0
IsFound rows key (Ok place) = IsSomeAnd (slice_get rows place) (λ row. row.key ≡ key)
IsFound rows key (Err place) = IsGapFor rows key place

-- the rows of a key range
abbrev pub rows_between : Key → Key → List Row → List Row
rows_between from until rows = filter (λ r. is_between from until r.key) rows

-- the row at the place has this weight
abbrev pub with_weight : List Row → ℕ → ℕ → List Row
with_weight [] place weight = []
with_weight (r ∷ rs) zero weight = record r { weight = weight } ∷ rs
with_weight (r ∷ rs) (suc place) weight = r ∷ with_weight rs place weight

-- the key of the first row, or the other key where there is none
abbrev pub first_key_or : List Row → Key → Key
first_key_or [] other = other
first_key_or (r ∷ rs) other = r.key

-- the rows before the place, up to the key of the first row behind it
abbrev pub front_of : FencedRows → ℕ → FencedRows
front_of s place = record { low = s.low; high = first_key_or (drop place s.rows) s.high; rows = take place s.rows }

-- the rows behind the place, from the key of the first of them on
abbrev pub back_of : FencedRows → ℕ → FencedRows
back_of s place = record { low = first_key_or (drop place s.rows) s.high; high = s.high; rows = drop place s.rows }

-- the rows of two neighbours
abbrev pub joined : FencedRows → FencedRows → FencedRows
joined s t = record { low = s.low; high = t.high; rows = s.rows ++ t.rows }

-- no rows, and no key between the fences
abbrev pub nothing_at : Key → FencedRows
nothing_at key = record { low = key; high = key; rows = [] }
