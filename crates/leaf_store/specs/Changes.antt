-- What the calls do to the leaves of a store.
use Rattle.std.specs.Prelude.{◌≡◌, ◌⊎◌, ℕ, ◌+◌, ◌-◌, ◌*◌, ◌<◌, ◌≤◌, true, false, cond, List, [], ◌∷◌, length, Option, Some, None, slice_get}
use Rattle.std.specs.Ordering.{eq_by_cmp}
use Rattle.graph_model.specs.declared.limits.TheConstants.{SPLIT_ROWS}
use Rattle.graph_model.specs.declared.row.Key.{Key}
use Rattle.graph_model.specs.declared.row.Row.{Row}
use Rattle.graph_model.specs.declared.journal.TxnName.{TxnName}
use Rattle.graph_model.specs.Rows.{key_cmp, is_below, end_key}
use Rattle.std.specs.List.{AllByRecursion}
use Rattle.txn_manager.specs.declared.config.RoomRefusal.{RoomRefusal}
use Rattle.txn_manager.specs.declared.config.RoomRefusal.TheVariants as refusals
use Rattle.leaf_store.specs.declared.store.Pruned.{Pruned}
use Rattle.store_model.specs.Stamped.{StampedVersions}
use Rattle.density_tree.specs.Windows.{Fits, IsSmallestWindow}
use Rattle.leaf_table.specs.LeafArray.Segments.{counts_of}
use Rattle.leaf_table.specs.VersionSegment.Rows.{VersionedRows, ChangesKey, PrunesRows, IsSameSegment, all_records, nothing}
use Rattle.leaf_store.specs.Leaves.{Leaves, Part, cell_at, shares, versions_of, room_at, spare_at, record_count, weight}

-- ---- one cell

-- The cell of a key is another one now, with the same fence keys, and all else is as it was.
pub record ChangesCell (old new : Leaves) (key : Key) (cell : VersionedRows) : Type 0 where
  pub here : (q : Key) → shares old key q ≡ true → cell_at new q ≡ cell
  pub others : (q : Key) → shares old key q ≡ false → cell_at new q ≡ cell_at old q
  pub low : cell.low ≡ (cell_at old key).low
  pub high : cell.high ≡ (cell_at old key).high
  pub limit : new.limit ≡ old.limit
  pub free : new.free ≡ old.free
  pub retired : new.retired ≡ old.retired
  pub weight : weight new ≤ weight old + (length cell.rows - length (cell_at old key).rows)

-- the versions of one key are these now
abbrev pub ChangesVersions : Leaves → Leaves → Key → StampedVersions → Type 0
ChangesVersions old new key versions =
    (cell : VersionedRows) × ChangesCell old new key cell × ChangesKey (cell_at old key) cell key versions

-- a change of a key may use up the room for so many records in the key's cell
abbrev pub UsesRecords : ℕ → Leaves → Leaves → Type 0
UsesRecords count old new = (q : Key) → spare_at old q ≤ spare_at new q + count

-- no room for records is used up
abbrev pub KeepsRecordRoom : Leaves → Leaves → Type 0
KeepsRecordRoom old new = (q : Key) → spare_at old q ≤ spare_at new q

-- only room for records has changed
pub record KeepsCells (old new : Leaves) : Type 0 where
  pub cells : (q : Key) → IsSameSegment (cell_at old q) (cell_at new q)
  pub limit : new.limit ≡ old.limit
  pub free : new.free ≡ old.free
  pub retired : new.retired ≡ old.retired
  pub weight : weight new ≡ weight old

-- the rows of a key's cell are pruned
pub record PrunesCell (stamps : TxnName → Option ℕ) (horizon : ℕ) (old new : Leaves) (key : Key) (pruned : Pruned)
    : Type 0 where
  pub cell : VersionedRows
  pub changes : ChangesCell old new key cell
  pub prunes : PrunesRows stamps horizon (cell_at old key) cell
  pub went : pruned.records + all_records cell.rows ≡ all_records (cell_at old key).rows
  pub left : pruned.records + record_count new ≡ record_count old
  pub high : pruned.high ≡ (cell_at old key).high

-- ---- room

-- Rows have moved, or nothing has happened: each key has its versions.
pub record MovesRows (old new : Leaves) : Type 0 where
  pub versions : (q : Key) → versions_of new q ≡ versions_of old q
  -- a cell has the room that it had, or it has changed and then has room for two rows
  pub room : (q : Key) → (room_at old q ≤ room_at new q) ⊎ (2 ≤ room_at new q)
  pub limit : new.limit ≡ old.limit
  pub weight : weight new ≤ weight old

-- no window round the key's segment has room for the rows needed, and no leaf is free
pub record IsFull (s : Leaves) (key : Key) (need : ℕ) : Type 0 where
  pub part : Part
  pub place : ℕ
  pub segment : ℕ
  pub there : slice_get s.parts place ≡ Some part
  pub holds : slice_get part.segments segment ≡ Some (cell_at s key)
  pub windows : IsSmallestWindow (Fits (counts_of part.segments) need) segment None
  pub free : s.free ≡ []

-- the key's cell has too little room for so many rows, one or two
pub record NeedsRoom (s : Leaves) (key : Key) (need : ℕ) : Type 0 where
  pub within : is_below key end_key ≡ true
  pub some : 1 ≤ need
  pub few : need ≤ 2
  pub short : room_at s key < need

-- why no room was made, and what that left
abbrev pub IsRoomRefusal : Leaves → Key → ℕ → RoomRefusal → Leaves → Type 0
IsRoomRefusal old key need (refusals.Full leaves) new =
    (leaves ≡ old.limit) × IsFull old key need × (SPLIT_ROWS * leaves ≤ weight old) × (new ≡ old)
IsRoomRefusal old key need refusals.NoMemory new = Unit {0}

-- ---- new ones

-- no rows, and all leaves but one are free
pub record AreNew (limit : ℕ) (s : Leaves) : Type 0 where
  pub versions : (q : Key) → versions_of s q ≡ nothing
  pub limit_is : s.limit ≡ limit
  pub retired : s.retired ≡ []
  pub weight : weight s ≡ 0

-- a settled row's versions: its value alone
abbrev pub settled_at : List Row → Key → StampedVersions
settled_at [] q = nothing
settled_at (r ∷ rs) q =
    cond (eq_by_cmp key_cmp q r.key) (record { pairs = []; oldest = Some r.weight; touches = [] }) (settled_at rs q)

-- each key is below all later ones, and all are below the last key
abbrev pub AreRising : List Row → Type 0
AreRising [] = Unit {0}
AreRising (r ∷ rs) =
    (is_below r.key end_key ≡ true) × AllByRecursion (λ q. is_below r.key q.key ≡ true) rs × AreRising rs

-- the rows are more than so many leaves hold, or memory is wanted
abbrev pub IsFillRefusal : ℕ → List Row → RoomRefusal → Type 0
IsFillRefusal limit rows (refusals.Full leaves) = (leaves ≡ limit) × (SPLIT_ROWS * limit ≤ length rows)
IsFillRefusal limit rows refusals.NoMemory = Unit {0}

-- these rows, each of them settled
pub record AreFilled (limit : ℕ) (rows : List Row) (s : Leaves) : Type 0 where
  pub versions : (q : Key) → versions_of s q ≡ settled_at rows q
  pub limit_is : s.limit ≡ limit
  pub retired : s.retired ≡ []
  pub weight : weight s ≤ length rows
