-- A segment at rest: its rows lie elsewhere, each with one word that tells its newest value.
use Rattle.std.specs.Prelude.{◌≡◌, ℕ, zero, suc, ◌+◌, ◌-◌, ◌≤◌, ◌==◌, ◌^◌, nat_le, Bool, true, false, ◌&&◌, ◌||◌, not, cond, is_some, List, [], ◌∷◌, map, Option, Some, None, IfSome}
use Rattle.std.specs.List.{AllByRecursion, list_any}
use Rattle.graph_model.specs.Conflict.{same_name}
use Rattle.graph_model.specs.Transactions.{reached}
use Rattle.graph_model.specs.declared.journal.TxnName.{TxnName}
use Rattle.graph_model.specs.declared.row.Key.{Key}
use Rattle.graph_model.specs.declared.row.Row.{Row}
use Rattle.graph_model.specs.declared.limits.TheConstants.{MAX_WEIGHT}
use Rattle.graph_model.specs.Rows.{is_below}
use Rattle.gap_segment.specs.Fenced.{AreSorted, AreWithin}
use Rattle.store_model.specs.Stamped.{Stamped, StampedVersions, lacks_stamp, stamp}
use Rattle.row_table.specs.Rows.{VersionedRows, IsSegment, is_empty}

-- ---- the newest value of a row, and the rest of its versions

abbrev pub newest_in : List Stamped → Option ℕ → Option ℕ
newest_in [] oldest = oldest
newest_in (p ∷ ps) oldest = p.value

abbrev pub newest_value : StampedVersions → Option ℕ
newest_value vs = newest_in vs.pairs vs.oldest

abbrev pub front_with : Option ℕ → List Stamped → List Stamped
front_with value [] = []
front_with value (p ∷ ps) = record p { value = value } ∷ ps

abbrev pub oldest_with : Option ℕ → List Stamped → Option ℕ → Option ℕ
oldest_with value [] oldest = value
oldest_with value (p ∷ ps) oldest = oldest

-- the versions with another newest value
abbrev pub with_newest : Option ℕ → StampedVersions → StampedVersions
with_newest value vs =
    record { pairs = front_with value vs.pairs; oldest = oldest_with value vs.pairs vs.oldest; touches = vs.touches }

-- ---- value words

-- is added where the row has undo records
abbrev pub mark : ℕ
mark = 9223372036854775808

-- stands for no value
abbrev pub no_value : ℕ
no_value = 18446744073709551615

-- the word of a newest value, which stands alone or has undo records behind it
abbrev pub word_of : Option ℕ → Bool → ℕ
word_of None is_alone = no_value
word_of (Some weight) true = weight
word_of (Some weight) false = mark + weight

abbrev pub value_word : StampedVersions → ℕ
value_word vs = word_of (newest_value vs) (is_empty vs.pairs)

-- the newest value that a word tells
abbrev pub value_in_word : ℕ → Option ℕ
value_in_word n = cond (n == no_value) None (cond (nat_le mark n) (Some (n - mark)) (Some n))

-- whether it tells that there may be older values; one without a value does too
abbrev pub is_marked : ℕ → Bool
is_marked n = nat_le mark n

-- the weight that it tells; where there is no value it isn't read
abbrev pub weight_in_word : ℕ → ℕ
weight_in_word n = cond (is_marked n) (n - mark) n

-- ---- a segment at rest

-- What is left of a row without its newest value, in whose place none stands.
pub record RestingRow : Type 0 where
  pub has_value : Bool
  pub versions : StampedVersions

-- What is left of each row, and for how many more records there is room.
pub record RestingRows : Type 0 where
  pub rows : List RestingRow
  pub spare : ℕ

abbrev pub resting_row : Key × StampedVersions → RestingRow
resting_row row = record { has_value = is_some (newest_value row.1); versions = with_newest None row.1 }

abbrev pub resting_of : VersionedRows → RestingRows
resting_of s = record { rows = map resting_row s.rows; spare = s.spare }

-- a row with its value word in place of a weight
abbrev pub word_row : Key × StampedVersions → Row
word_row row = record { key = row.0; weight = value_word row.1 }

abbrev pub word_rows : VersionedRows → List Row
word_rows s = map word_row s.rows

-- the newest weights are within their limit, so a word tells them
abbrev pub HasSmallWeights : VersionedRows → Type 0
HasSmallWeights s = AllByRecursion (λ row. IfSome (newest_value row.1) (λ weight. weight ≤ MAX_WEIGHT)) s.rows

-- what is left of so many settled rows
abbrev pub settled_rest : ℕ → List RestingRow
settled_rest zero = []
settled_rest (suc count) =
    record { has_value = true; versions = record { pairs = []; oldest = None; touches = [] } } ∷ settled_rest count

-- nothing stands in the place of a newest value
abbrev pub AreErased : List RestingRow → Type 0
AreErased rows = AllByRecursion (λ h. with_newest None h.versions ≡ h.versions) rows

-- ---- a segment that wakes

abbrev pub woken_row : RestingRow → Row → Key × StampedVersions
woken_row h row = (row.key, with_newest (value_in_word row.weight) h.versions)

abbrev pub woken_rows : List RestingRow → List Row → List (Key × StampedVersions)
woken_rows [] rows = []
woken_rows (h ∷ hs) [] = []
woken_rows (h ∷ hs) (row ∷ rows) = woken_row h row ∷ woken_rows hs rows

-- each row gets the newest value that its word tells
abbrev pub woken : RestingRows → Key → Key → List Row → VersionedRows
woken resting low high rows =
    record { low = low; high = high; rows = woken_rows resting.rows rows; spare = resting.spare }

-- a value word agrees with what is left of its row
pub record AgreesWith (h : RestingRow) (word : ℕ) : Type 0 where
  pub value : is_some (value_in_word word) ≡ h.has_value
  pub marked : is_marked word ≡ (not (is_empty h.versions.pairs) || not h.has_value)
  pub small : IfSome (value_in_word word) (λ weight. weight ≤ MAX_WEIGHT)

-- there are as many rows as were laid to rest, and the words of all agree
abbrev pub AgreeWith : List RestingRow → List Row → Type 0
AgreeWith [] [] = Unit {0}
AgreeWith (h ∷ hs) (row ∷ rows) = AgreesWith h row.weight × AgreeWith hs rows
AgreeWith [] (row ∷ rows) = ⊥
AgreeWith (h ∷ hs) [] = ⊥

-- a segment may wake with these fence keys and rows
pub record CanWake (resting : RestingRows) (low high : Key) (rows : List Row) : Type 0 where
  pub fences : is_below high low ≡ false
  pub sorted : AreSorted rows
  pub within : AreWithin low high rows
  pub agree : AgreeWith resting.rows rows

-- ---- rows that are stamped

-- the records of a writer that have no stamp get this one
abbrev pub stamped_row : TxnName → ℕ → RestingRow → RestingRow
stamped_row by number h = record h { versions = stamp by number h.versions }

abbrev pub stamped_rest : TxnName → ℕ → RestingRows → RestingRows
stamped_rest by number resting = record resting { rows = map (stamped_row by number) resting.rows }

-- ---- rows that settle

-- the record has neither a stamp up to the horizon, nor none though it is this writer's: once this writer's records have
-- such a stamp, a prune leaves it
abbrev pub outlasts : TxnName → ℕ → Stamped → Bool
outlasts by horizon p = not (reached p.stamp horizon || (same_name p.by by && lacks_stamp p))

-- the row has a value, and no record of it outlasts this writer's stamp
pub record Settles (by : TxnName) (horizon : ℕ) (h : RestingRow) : Type 0 where
  pub value : h.has_value ≡ true
  pub pairs : list_any (outlasts by horizon) h.versions.pairs ≡ false
  pub touches : list_any (outlasts by horizon) h.versions.touches ≡ false

-- all rows settle once this writer's records have a stamp up to the horizon, and are pruned there
abbrev pub CanSettle : TxnName → ℕ → List RestingRow → Type 0
CanSettle by horizon rows = AllByRecursion (Settles by horizon) rows

-- ---- laws

-- the word of a settled row is its weight, that of a row with undo records has 2^63 added, and that of no value is
-- 2^64 - 1
pub record ValueWordsAre : Type 0 where
  pub alone : (weight : ℕ) → word_of (Some weight) true ≡ weight
  pub changed : (weight : ℕ) → word_of (Some weight) false ≡ 2 ^ 63 + weight
  pub none : (is_alone : Bool) → word_of None is_alone + 1 ≡ 2 ^ 64

-- a word tells the newest value of the versions that it was made of; where it isn't marked there is no older one; with
-- that value what is left of them is what they were
pub record WordTells (vs : StampedVersions) : Type 0 where
  pub newest : value_in_word (value_word vs) ≡ newest_value vs
  pub alone : is_marked (value_word vs) ≡ false → vs.pairs ≡ []
  pub whole : with_newest (value_in_word (value_word vs)) (with_newest None vs) ≡ vs

abbrev pub WordsTell : Type 0
WordsTell = (vs : StampedVersions) → IfSome (newest_value vs) (λ weight. weight ≤ MAX_WEIGHT) → WordTells vs

-- a segment that is laid to rest wakes as it was, with the same fence keys and rows
abbrev pub WakesRested : Type 0
WakesRested = (s : VersionedRows) → HasSmallWeights s → woken (resting_of s) s.low s.high (word_rows s) ≡ s

-- and it may wake with them
abbrev pub RestedCanWake : Type 0
RestedCanWake = (s : VersionedRows) → IsSegment s → HasSmallWeights s
    → CanWake (resting_of s) s.low s.high (word_rows s)

-- one that is woken rests as before, with the same rows
pub record RestsAgain (resting : RestingRows) (low high : Key) (rows : List Row) : Type 0 where
  pub resting_again : resting_of (woken resting low high rows) ≡ resting
  pub rows_again : word_rows (woken resting low high rows) ≡ rows
  pub small : HasSmallWeights (woken resting low high rows)

abbrev pub RestsWoken : Type 0
RestsWoken = (resting : RestingRows) (low high : Key) (rows : List Row) → AreErased resting.rows
    → CanWake resting low high rows → RestsAgain resting low high rows
