-- Where the records of changed rows begin.
use Rattle.std.specs.Prelude.{◌≡◌, ℕ, zero, suc, ◌+◌, ◌-◌, ◌<◌, ◌≤◌, Bool, true, false, ◌&&◌, not, is_some, Option, Some, List, [], ◌∷◌, map, drop, slice_get, None, IsSomeAnd}
use Rattle.std.specs.List.{AllByRecursion}
use Rattle.std.specs.Option.{unwrap_or}
use Rattle.std.specs.FinMap.Entries.{find}
use Rattle.std.specs.declared.result.Result.{Result}
use Rattle.std.specs.declared.result.Result.TheVariants.{Ok, Err}
use Rattle.graph_model.specs.declared.row.Key.{Key}
use Rattle.graph_model.specs.declared.row.Row.{Row}
use Rattle.graph_model.specs.Rows.{key_cmp}
use Rattle.gap_segment.specs.Fenced.{FencedRows}
use Rattle.head_map.specs.declared.heads.Heads.{Heads}
use Rattle.head_map.specs.Keyed.{entries_by, RisesBy, IsPlaceBy, IsGapBy}

-- ---- heads of rows

-- a row without records, which has its value
abbrev pub settled_heads : Heads
settled_heads = record { has_value = true; undos = None; touches = None }

abbrev pub is_settled : Heads → Bool
is_settled h = h.has_value && (not (is_some h.undos) && not (is_some h.touches))

-- the heads that a list has at a key; a row that isn't named is settled
abbrev pub heads_by : {X : Type 0} → (X → Key) → (X → Heads) → List X → Key → Heads
heads_by key heads rows k = unwrap_or (find key_cmp k (entries_by key heads rows)) settled_heads

-- ---- rows by their keys

-- A row by its key.
pub record ChangedRow : Type 0 where
  pub key : Key
  pub heads : Heads

-- The rows with their heads, and for how many more changed ones there is room.
pub record HeadTable : Type 0 where
  pub entries : List ChangedRow
  pub spare : ℕ

abbrev pub row_key : ChangedRow → Key
row_key row = row.key

abbrev pub row_heads : ChangedRow → Heads
row_heads row = row.heads

-- the heads of the row at a key
abbrev pub heads_at : List ChangedRow → Key → Heads
heads_at rows k = heads_by row_key row_heads rows k

-- ---- changed rows by their places

-- A changed row by its place.
pub record PlacedRow : Type 0 where
  pub place : ℕ
  pub heads : Heads

-- The changed rows, and for how many more there is room.
pub record PlaceTable : Type 0 where
  pub entries : List PlacedRow
  pub spare : ℕ

-- places have the order of such keys
abbrev pub place_key : ℕ → Key
place_key place = record { src = place; second = 0 }

abbrev pub placed_key : PlacedRow → Key
placed_key row = place_key row.place

abbrev pub placed_heads : PlacedRow → Heads
placed_heads row = row.heads

-- the heads of the row at a place
abbrev pub heads_placed : List PlacedRow → ℕ → Heads
heads_placed rows place = heads_by placed_key placed_heads rows (place_key place)

-- each place is below all later ones
abbrev pub ArePlacesRising : List PlacedRow → Type 0
ArePlacesRising rows = RisesBy placed_key rows

-- places rise, and none of the rows is settled
pub record ArePlaced (rows : List PlacedRow) : Type 0 where
  pub rising : ArePlacesRising rows
  pub unsettled : AllByRecursion (λ row. is_settled row.heads ≡ false) rows

-- so many rows stand before the place
abbrev pub IsPlaceIn : List PlacedRow → ℕ → ℕ → Type 0
IsPlaceIn rows place index = IsPlaceBy placed_key rows (place_key place) index

-- the index of the row at the place, or the one where it would stand
abbrev pub IsFoundIn : List PlacedRow → ℕ → Result ℕ ℕ → Type 0
IsFoundIn rows place (Ok index) = IsSomeAnd (slice_get rows index) (λ row. row.place ≡ place)
IsFoundIn rows place (Err index) = IsGapBy placed_key rows (place_key place) index

-- the place behind one, or the first of all
abbrev pub place_behind : Option ℕ → ℕ
place_behind None = 0
place_behind (Some p) = suc p

-- ---- places that shift

abbrev pub raised_row : ℕ → PlacedRow → PlacedRow
raised_row by row = record { place = row.place + by; heads = row.heads }

abbrev pub lowered_row : ℕ → PlacedRow → PlacedRow
lowered_row by row = record { place = row.place - by; heads = row.heads }

-- the rows from an index on are changed
abbrev pub changed_from : ℕ → (PlacedRow → PlacedRow) → List PlacedRow → List PlacedRow
changed_from zero f rows = map f rows
changed_from (suc i) f [] = []
changed_from (suc i) f (row ∷ rows) = row ∷ changed_from i f rows

-- so many places further up are still places that a byte can tell
abbrev pub ArePlacedBelow : ℕ → List PlacedRow → Type 0
ArePlacedBelow by rows = AllByRecursion (λ row. row.place + by < 256) rows

-- the rows from an index on stand so many places up
abbrev pub ArePlacedFrom : ℕ → ℕ → List PlacedRow → Type 0
ArePlacedFrom index by rows = AllByRecursion (λ row. by ≤ row.place) (drop index rows)

-- a settled row comes at the place, and those from there on stand one place further up
abbrev pub opened : ℕ → (ℕ → Heads) → ℕ → Heads
opened zero f zero = settled_heads
opened zero f (suc p) = f p
opened (suc n) f zero = f zero
opened (suc n) f (suc p) = opened n (λ q. f (suc q)) p

-- the row at the place goes, and those behind it stand one place further down
abbrev pub closed : ℕ → (ℕ → Heads) → ℕ → Heads
closed zero f p = f (suc p)
closed (suc n) f zero = f zero
closed (suc n) f (suc p) = closed n (λ q. f (suc q)) p

-- so many settled rows come before all others
abbrev pub raised : ℕ → (ℕ → Heads) → ℕ → Heads
raised zero f p = f p
raised (suc n) f zero = settled_heads
raised (suc n) f (suc p) = raised n f p

-- ---- rows with their heads

-- each row with the heads at its place
abbrev pub keyed : List Row → (ℕ → Heads) → List ChangedRow
keyed [] f = []
keyed (row ∷ rows) f = record { key = row.key; heads = f zero } ∷ keyed rows (λ p. f (suc p))

abbrev pub keyed_table : List Row → PlaceTable → HeadTable
keyed_table rows table = record { entries = keyed rows (heads_placed table.entries); spare = table.spare }

-- behind so many places all rows are settled
abbrev pub AreWithinPlaces : ℕ → List PlacedRow → Type 0
AreWithinPlaces count rows = (p : ℕ) → count ≤ p → heads_placed rows p ≡ settled_heads

-- Sorted rows between fence keys, with their heads.
pub record HeadedRows : Type 0 where
  pub fenced : FencedRows
  pub heads : HeadTable

-- the rows from one place on and before another are settled
abbrev pub AreSettledRows : List Row → List ChangedRow → ℕ → ℕ → Type 0
AreSettledRows rows heads first end =
    (p : ℕ) (row : Row) → slice_get rows p ≡ Some row → first ≤ p → p < end → heads_at heads row.key ≡ settled_heads
