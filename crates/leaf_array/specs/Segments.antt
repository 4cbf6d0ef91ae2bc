-- Segments behind one another, as plain lists.
use Rattle.std.specs.Prelude.{◌≡◌, ℕ, ◌+◌, ◌≤◌, true, List, [], ◌∷◌, ◌++◌, length, map, drop, slice_get, IsSomeAnd}
use Rattle.std.specs.List.{AllByRecursion}
use Rattle.graph_model.specs.declared.row.Key.{Key}
use Rattle.graph_model.specs.Rows.{is_between}
use Rattle.store_model.specs.Stamped.{StampedVersions}
use Rattle.version_segment.specs.Rows.{VersionedRows, IsSameSegment, all_records, first_key_of}

-- ---- what they hold

-- all rows, with their versions
abbrev pub rows_of : List VersionedRows → List (Key × StampedVersions)
rows_of [] = []
rows_of (s ∷ ss) = s.rows ++ rows_of ss

-- so many records stand in all rows
abbrev pub records_of : List VersionedRows → ℕ
records_of ss = all_records (rows_of ss)

abbrev pub count_of : VersionedRows → ℕ
count_of s = length s.rows

abbrev pub counts_of : List VersionedRows → List ℕ
counts_of ss = map count_of ss

-- ---- their fence keys

abbrev pub lows_of : List VersionedRows → List Key
lows_of ss = map (λ s. s.low) ss

-- where the first one begins, or the other key where there is none
abbrev pub low_or : List VersionedRows → Key → Key
low_or [] other = other
low_or (s ∷ ss) other = s.low

-- where the last one ends
abbrev pub high_or : List VersionedRows → Key → Key
high_or [] other = other
high_or (s ∷ ss) other = high_or ss s.high

-- each one ends where the next begins
abbrev pub AreChained : List VersionedRows → Type 0
AreChained [] = Unit {0}
AreChained (s ∷ ss) = (low_or ss s.high ≡ s.high) × AreChained ss

-- a segment begins with its first row, or where it has none at its end
abbrev pub BeginsAtRow : VersionedRows → Type 0
BeginsAtRow s = s.low ≡ first_key_of s.rows s.high

-- both fence keys are as they were
pub record KeepsFences (old new : VersionedRows) : Type 0 where
  pub low : new.low ≡ old.low
  pub high : new.high ≡ old.high

-- the range of the segment at the place holds the key
abbrev pub HoldsKey : List VersionedRows → Key → ℕ → Type 0
HoldsKey ss key place = IsSomeAnd (slice_get ss place) (λ s. is_between s.low s.high key ≡ true)

-- ---- room for records

-- each has room for so many more records
abbrev pub HaveRoom : ℕ → List VersionedRows → Type 0
HaveRoom records ss = AllByRecursion (λ s. records ≤ s.spare) ss

-- each has room for as many records as before, but for so many
abbrev pub UseRoom : ℕ → List VersionedRows → List VersionedRows → Type 0
UseRoom records [] [] = Unit {0}
UseRoom records (s ∷ ss) (t ∷ ts) = (s.spare ≤ t.spare + records) × UseRoom records ss ts
UseRoom records [] (t ∷ ts) = ⊥
UseRoom records (s ∷ ss) [] = ⊥

-- in none has more than the room for records changed
abbrev pub AreSame : List VersionedRows → List VersionedRows → Type 0
AreSame [] [] = Unit {0}
AreSame (s ∷ ss) (t ∷ ts) = IsSameSegment s t × AreSame ss ts
AreSame [] (t ∷ ts) = ⊥
AreSame (s ∷ ss) [] = ⊥

-- ---- moves

-- The same rows with the same versions, between the same outer fence keys.
pub record KeepsRows (old new : List VersionedRows) : Type 0 where
  pub rows : rows_of new ≡ rows_of old
  pub low : (other : Key) → low_or new other ≡ low_or old other
  pub high : (other : Key) → high_or new other ≡ high_or old other
  pub chained : AreChained new
  pub segments : length new ≡ length old

-- The second one begins with its first row now, if there is one, and no row has moved.
pub record IsCut (old new : List VersionedRows) : Type 0 where
  pub keeps : KeepsRows old new
  pub same : counts_of new ≡ counts_of old
  pub begins : AllByRecursion BeginsAtRow (drop 2 old) → AllByRecursion BeginsAtRow (drop 1 new)

-- The rows are divided: each segment has its count, and all but the first begin with their first row.
pub record IsDivided (old new : List VersionedRows) (counts : List ℕ) : Type 0 where
  pub keeps : KeepsRows old new
  pub shares : counts_of new ≡ counts
  pub begins : AllByRecursion BeginsAtRow (drop 1 new)
