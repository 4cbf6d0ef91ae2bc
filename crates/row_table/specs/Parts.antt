-- What the parts of a segment stand for.
use Rattle.std.specs.Prelude.{◌≡◌, ℕ, Bool, true, false, ◌||◌, not, cond, is_some, min, length, ◌+◌, ◌≤◌, List, [], ◌∷◌, ◌++◌, remove, slice_get, IsSomeAnd, Option, Some, None}
use Rattle.std.specs.List.{AllByRecursion}
use Rattle.std.specs.Ordering.{eq_by_cmp}
use Rattle.std.specs.Option.{unwrap_or}
use Rattle.std.specs.declared.result.Result.{Result}
use Rattle.std.specs.declared.result.Result.TheVariants.{Ok, Err}
use Rattle.graph_model.specs.declared.row.Key.{Key}
use Rattle.graph_model.specs.declared.row.Row.{Row}
use Rattle.graph_model.specs.Rows.{key_cmp}
use Rattle.store_model.specs.Stamped.{Stamped, StampedVersions}
use Rattle.gap_segment.specs.Fenced.{FencedRows, AreFenced, IsGapFor, with_weight}
use Rattle.head_map.specs.UndoChain.Records.{UndoRecord, pairs_of, oldest_of}
use Rattle.head_map.specs.UndoChain.Chains.{ChainMap, list_at}
use Rattle.head_map.specs.declared.heads.Heads.{Heads}
use Rattle.head_map.specs.Heads.{ChangedRow}
use Rattle.row_table.specs.declared.found.FoundRow.{FoundRow}
use Rattle.head_map.specs.Keyed.{entries_by}
use Rattle.row_table.specs.Rows.{VersionedRows, all_records}
use Rattle.head_map.specs.Heads.{HeadTable, HeadedRows, heads_at}
use Rattle.row_table.specs.Lists.{AreLists, HasRest}

-- the touches of a list, the oldest first
abbrev pub touches_of : List UndoRecord → List Stamped
touches_of [] = []
touches_of (u ∷ us) = touches_of us ++ record { by = u.by; stamp = u.stamp; value = None } ∷ []

-- a row's newest value, its records and its touches, as versions
abbrev pub of_lists : Option ℕ → List UndoRecord → List UndoRecord → StampedVersions
of_lists value undos touches =
    record { pairs = pairs_of value undos; oldest = oldest_of value undos; touches = touches_of touches }

-- the newest value of a row
abbrev pub value_in : Heads → ℕ → Option ℕ
value_in h weight = cond h.has_value (Some weight) None

abbrev pub versions_in : ChainMap → Heads → ℕ → StampedVersions
versions_in c h weight = of_lists (value_in h weight) (list_at c h.undos) (list_at c h.touches)

abbrev pub key_of : Row → Key
key_of row = row.key

-- each row with its versions
abbrev pub versioned : ChainMap → List ChangedRow → List Row → List (Key × StampedVersions)
versioned c heads rows = entries_by key_of (λ row. versions_in c (heads_at heads row.key) row.weight) rows

-- so many records these rows of a table have
abbrev pub records_in : HeadedRows → ChainMap → List Row → ℕ
records_in table c rows = all_records (versioned c table.heads.entries rows)

-- what holds of the parts of each segment
pub record AreParts (rows : FencedRows) (heads : List ChangedRow) (c : ChainMap) : Type 0 where
  pub fenced : AreFenced rows
  pub lists : AreLists c (heads_at heads)
  pub rest : (q : Key) → HasRest (heads_at heads q)

-- the segment that contracts see
abbrev pub view_of : FencedRows → HeadTable → ChainMap → VersionedRows
view_of rows heads c = record {
  low = rows.low;
  high = rows.high;
  rows = versioned c heads.entries rows.rows;
  spare = min c.spare heads.spare;
}

-- ---- one row

-- a row's place, its newest value and its lists
pub record IsRow (rows : List Row) (heads : List ChangedRow) (key : Key) (row : FoundRow) : Type 0 where
  pub at : IsSomeAnd (slice_get rows row.place)
      (λ r. (r.key ≡ key) × (row.value ≡ value_in (heads_at heads key) r.weight))
  pub undos : row.undos ≡ (heads_at heads key).undos
  pub touches : row.touches ≡ (heads_at heads key).touches

-- the row that was found, or the place where it would stand
abbrev pub IsRowFound : List Row → List ChangedRow → Key → Result FoundRow ℕ → Type 0
IsRowFound rows heads key (Ok row) = IsRow rows heads key row
IsRowFound rows heads key (Err place) = IsGapFor rows key place

-- the row has a record
abbrev pub is_changed : FoundRow → Bool
is_changed row = is_some row.undos || is_some row.touches

abbrev pub heads_of : FoundRow → Heads
heads_of row =
    record { has_value = is_some row.value || not (is_changed row); undos = row.undos; touches = row.touches }

-- the rows, where one at a place has this value; without value and records it goes
abbrev pub with_value : List Row → ℕ → Option ℕ → Bool → List Row
with_value rows place (Some weight) changed = with_weight rows place weight
with_value rows place None true = rows
with_value rows place None false = remove rows place

-- the row that is put; where it has no value its weight isn't read
abbrev pub new_row : Key → FoundRow → Row
new_row key row = record { key = key; weight = unwrap_or row.value 0 }

-- ---- a row that moves

-- so many records it has
abbrev pub records_at_key : ChainMap → Heads → ℕ
records_at_key c h = length (list_at c h.undos) + length (list_at c h.touches)

-- the versions of one row stand in other parts now, and those of all other rows are as they were
pub record HandsRow (key : Key) (from_heads from_heads' : HeadTable) (from from' : ChainMap)
    (to_heads to_heads' : HeadTable) (to to' : ChainMap) : Type 0 where
  pub from_lists : AreLists from' (heads_at from_heads'.entries)
  pub to_lists : AreLists to' (heads_at to_heads'.entries)
  pub from_others : (q : Key) (weight : ℕ) → eq_by_cmp key_cmp q key ≡ false
      → versions_in from' (heads_at from_heads'.entries q) weight
      ≡ versions_in from (heads_at from_heads.entries q) weight
  pub to_others : (q : Key) (weight : ℕ) → eq_by_cmp key_cmp q key ≡ false
      → versions_in to' (heads_at to_heads'.entries q) weight ≡ versions_in to (heads_at to_heads.entries q) weight
  pub moved : (weight : ℕ)
      → versions_in to' (heads_at to_heads'.entries key) weight
      ≡ versions_in from (heads_at from_heads.entries key) weight
  pub from_rest : ((q : Key) → HasRest (heads_at from_heads.entries q))
      → (q : Key) → HasRest (heads_at from_heads'.entries q)
  pub to_rest : ((q : Key) → HasRest (heads_at to_heads.entries q)) → (q : Key) → HasRest (heads_at to_heads'.entries q)
  pub from_spare : from.spare ≤ from'.spare
  pub from_entry : from_heads.spare ≤ from_heads'.spare
  pub to_spare : to.spare ≤ to'.spare + records_at_key from (heads_at from_heads.entries key)
  pub to_entry : to_heads.spare ≤ to_heads'.spare + records_at_key from (heads_at from_heads.entries key)

-- the key is none of the rows'
abbrev pub IsElsewhere : List Row → Key → Type 0
IsElsewhere rows q = AllByRecursion (λ r. eq_by_cmp key_cmp q r.key ≡ false) rows

-- the versions of all these rows stand in other parts now, and those of all other rows are as they were
pub record HandsRows (rows : List Row) (from_heads from_heads' : HeadTable) (from from' : ChainMap)
    (to_heads to_heads' : HeadTable) (to to' : ChainMap) : Type 0 where
  pub from_lists : AreLists from' (heads_at from_heads'.entries)
  pub to_lists : AreLists to' (heads_at to_heads'.entries)
  pub from_others : (q : Key) (weight : ℕ) → IsElsewhere rows q
      → versions_in from' (heads_at from_heads'.entries q) weight
      ≡ versions_in from (heads_at from_heads.entries q) weight
  pub to_others : (q : Key) (weight : ℕ) → IsElsewhere rows q
      → versions_in to' (heads_at to_heads'.entries q) weight ≡ versions_in to (heads_at to_heads.entries q) weight
  pub moved : versioned to' to_heads'.entries rows ≡ versioned from from_heads.entries rows
  pub from_rest : (q : Key) → HasRest (heads_at from_heads'.entries q)
  pub to_rest : ((q : Key) → HasRest (heads_at to_heads.entries q)) → (q : Key) → HasRest (heads_at to_heads'.entries q)
  pub from_spare : from.spare ≤ from'.spare
  pub from_entry : from_heads.spare ≤ from_heads'.spare
  pub to_spare : to.spare ≤ to'.spare + all_records (versioned from from_heads.entries rows)
  pub to_entry : to_heads.spare ≤ to_heads'.spare + all_records (versioned from from_heads.entries rows)
