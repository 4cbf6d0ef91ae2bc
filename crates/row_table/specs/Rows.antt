-- Rows with their versions, between fence keys, and what the calls do to them.
use Rattle.std.specs.Prelude.{◌≡◌, ℕ, ◌+◌, ◌≤◌, Bool, true, false, ◌&&◌, not, cond, is_some, List, [], ◌∷◌, ◌++◌, length, map, take, drop, Option, Some, None}
use Rattle.std.specs.List.{AllByRecursion, list_any, filter}
use Rattle.std.specs.Ordering.{eq_by_cmp}
use Rattle.std.specs.FinMap.Entries.{find, put, where_key}
use Rattle.graph_model.specs.declared.row.Key.{Key}
use Rattle.graph_model.specs.declared.journal.TxnName.{TxnName}
use Rattle.graph_model.specs.Conflict.{same_name}
use Rattle.graph_model.specs.declared.row.Row.{Row}
use Rattle.graph_model.specs.Rows.{key_cmp, is_below, is_between}
use Rattle.graph_model.specs.declared.limits.TheConstants.{SEGMENT_ROWS}
use Rattle.head_map.specs.Keyed.{RisesBy}
use Rattle.head_map.specs.UndoChainDeclared.states.Snapshot.{Snapshot}
use Rattle.store_model.specs.Stamped.{Stamped, StampedVersions, read_stamped, prune_stamped}

-- Rows between a low fence key, which a row may have, and a high one, which none has; and how many more
-- records can be put with no memory taken.
pub record VersionedRows : Type 0 where
  pub low : Key
  pub high : Key
  pub rows : List (Key × StampedVersions)
  pub spare : ℕ

-- ---- the versions of a key

-- those of a key that has no row
abbrev pub nothing : StampedVersions
nothing = record { pairs = []; oldest = None; touches = [] }

abbrev pub or_nothing : Option StampedVersions → StampedVersions
or_nothing None = nothing
or_nothing (Some versions) = versions

abbrev pub versions_at : VersionedRows → Key → StampedVersions
versions_at s key = or_nothing (find key_cmp key s.rows)

abbrev pub has_row : VersionedRows → Key → Bool
has_row s key = is_some (find key_cmp key s.rows)

-- so many records stand in a row
abbrev pub records_in : StampedVersions → ℕ
records_in versions = length versions.pairs + length versions.touches

-- ---- what holds of each segment

abbrev pub is_empty : {X : Type 0} → List X → Bool
is_empty [] = true
is_empty (x ∷ xs) = false

-- neither a value nor a record
abbrev pub is_nothing : StampedVersions → Bool
is_nothing versions = is_empty versions.pairs && (is_empty versions.touches && not (is_some versions.oldest))

-- keys strictly rise between the fence keys, no row is nothing, and there are 32 at most
pub record IsSegment (s : VersionedRows) : Type 0 where
  pub fences : is_below s.high s.low ≡ false
  pub rising : RisesBy (λ row. row.0) s.rows
  pub within : AllByRecursion (λ row. is_between s.low s.high row.0 ≡ true) s.rows
  pub something : AllByRecursion (λ row. is_nothing row.1 ≡ false) s.rows
  pub small : length s.rows ≤ SEGMENT_ROWS

-- ---- one key changes

-- the rows, of which the one with this key has these versions; where they are nothing it isn't there
abbrev pub with_versions : Key → StampedVersions → List (Key × StampedVersions) → List (Key × StampedVersions)
with_versions key versions rows =
    cond (is_nothing versions) (where_key key_cmp (λ q. not (eq_by_cmp key_cmp key q)) rows)
    (put key_cmp key versions rows)

-- the versions of one key are these now, and nothing else has changed
pub record ChangesKey (old new : VersionedRows) (key : Key) (versions : StampedVersions) : Type 0 where
  pub low : new.low ≡ old.low
  pub high : new.high ≡ old.high
  pub rows : new.rows ≡ with_versions key versions old.rows

-- only the room for records has changed
pub record IsSameSegment (old new : VersionedRows) : Type 0 where
  pub low : new.low ≡ old.low
  pub high : new.high ≡ old.high
  pub rows : new.rows ≡ old.rows

-- ---- what a call makes of the versions

-- a record just made; of a touch the value isn't read
abbrev pub new_record : TxnName → Option ℕ → Stamped
new_record by value = record { by = by; stamp = None; value = value }

-- a write puts a pair in front
abbrev pub written : TxnName → Option ℕ → StampedVersions → StampedVersions
written by value versions = record versions { pairs = new_record by value ∷ versions.pairs }

-- an undo takes the front pair away
abbrev pub undone : StampedVersions → StampedVersions
undone versions = record versions { pairs = drop 1 versions.pairs }

abbrev pub has_record : TxnName → List Stamped → Bool
has_record by records = list_any (λ p. same_name p.by by) records

-- a writer's touch stands among the touches once
abbrev pub touched : TxnName → StampedVersions → StampedVersions
touched by versions =
    record versions {
      touches = cond (has_record by versions.touches) versions.touches (versions.touches ++ new_record by None ∷ []);
    }

abbrev pub untouched : TxnName → StampedVersions → StampedVersions
untouched by versions = record versions { touches = filter (λ p. not (same_name p.by by)) versions.touches }

-- the writer of the newest pair
abbrev pub newest_writer : List Stamped → Option TxnName
newest_writer [] = None
newest_writer (p ∷ ps) = Some p.by

-- ---- all rows

-- so many records stand in the rows
abbrev pub all_records : List (Key × StampedVersions) → ℕ
all_records [] = 0
all_records (row ∷ rows) = records_in row.1 + all_records rows

-- a row before others, unless nothing is left of it
abbrev pub unless_nothing : Key → StampedVersions → List (Key × StampedVersions) → List (Key × StampedVersions)
unless_nothing key versions rows = cond (is_nothing versions) rows ((key, versions) ∷ rows)

-- each row is pruned
abbrev pub pruned_rows : (TxnName → Option ℕ) → ℕ → List (Key × StampedVersions) → List (Key × StampedVersions)
pruned_rows stamps horizon [] = []
pruned_rows stamps horizon (row ∷ rows) =
    unless_nothing row.0 (prune_stamped stamps horizon row.1) (pruned_rows stamps horizon rows)

-- all rows are pruned, and nothing else has changed
pub record PrunesRows (stamps : TxnName → Option ℕ) (horizon : ℕ) (old new : VersionedRows) : Type 0 where
  pub low : new.low ≡ old.low
  pub high : new.high ≡ old.high
  pub rows : new.rows ≡ pruned_rows stamps horizon old.rows

-- a row with this value before others, if it has one
abbrev pub with_row : Key → Option ℕ → List Row → List Row
with_row key None rows = rows
with_row key (Some weight) rows = record { key = key; weight = weight } ∷ rows

-- the rows that have a value, by a reading of versions
abbrev pub rows_read : (StampedVersions → Option ℕ) → List (Key × StampedVersions) → List Row
rows_read read [] = []
rows_read read (row ∷ rows) = with_row row.0 (read row.1) (rows_read read rows)

-- the rows of a key range
abbrev pub range_of : Key → Key → List (Key × StampedVersions) → List (Key × StampedVersions)
range_of from until rows = filter (λ row. is_between from until row.0) rows

-- the rows of a key range for a snapshot
abbrev pub rows_at : (TxnName → Option ℕ) → Snapshot → Key → Key → VersionedRows → List Row
rows_at stamps snapshot from until s =
    rows_read (read_stamped stamps snapshot.start snapshot.own) (range_of from until s.rows)

-- ---- two neighbours

-- the key of the first row, or the other key where there is none
abbrev pub first_key_of : List (Key × StampedVersions) → Key → Key
first_key_of [] other = other
first_key_of (row ∷ rows) other = row.0

-- the left one has the first so many rows of both, and the right one the others, with all their versions
pub record SharesRows (left right left' right' : VersionedRows) (count : ℕ) : Type 0 where
  pub left_rows : left'.rows ≡ take count (left.rows ++ right.rows)
  pub right_rows : right'.rows ≡ drop count (left.rows ++ right.rows)
  pub low : left'.low ≡ left.low
  pub high : right'.high ≡ right.high
  pub left_cut : left'.high ≡ first_key_of right'.rows right'.high
  pub right_cut : right'.low ≡ first_key_of right'.rows right'.high

-- ---- rows without records

-- a row whose value alone is there
abbrev pub settled_row : Row → Key × StampedVersions
settled_row r = (r.key, record { pairs = []; oldest = Some r.weight; touches = [] })

abbrev pub settled_rows : List Row → List (Key × StampedVersions)
settled_rows rows = map settled_row rows
