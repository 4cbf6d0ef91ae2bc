-- What writes change in rows, and which rows. Each law is the contract of a function in `laws`.
use Rattle.std.specs.Prelude.{◌≡◌, ◌⊎◌, ℕ, ◌||◌, true, false, cond, List, [], ◌∷◌, ◌++◌, Option, ◌+◌, ◌≤◌, length}
use Rattle.graph_model.specs.declared.write.Kind.{Kind}
use Rattle.graph_model.specs.declared.write.Write.{Write}
use Rattle.graph_model.specs.declared.row.Key.{Key}
use Rattle.graph_model.specs.declared.journal.TxnName.{TxnName}
use Rattle.graph_model.specs.Effects.{same_key, keys_of, writes_at, touches_at, any_writes, any_touches}
use Rattle.store_model.specs.Layers.{after_write, before_write}
use Rattle.store_model.specs.Stamped.{StampedVersions, IsStamped, forget_row}
use Rattle.version_segment.specs.Rows.{VersionedRows, IsSegment, ChangesKey, versions_at, has_row, is_nothing, touched}
use Rattle.store_relation.specs.Keys.{has_key, keys_but, ends_of, changed_keys}
use Rattle.store_relation.specs.Rows.{row_after, row_before}

-- ---- one row

-- without the stamps a row changes as a write, or its undo, changes a store's row
abbrev pub RowAfterIsWrite : Type 0
RowAfterIsWrite = (kind : Kind) (by : TxnName) (w : Write) (k : Key) (r : StampedVersions)
    → forget_row (row_after kind by w k r) ≡ after_write kind by w k (forget_row r)

abbrev pub RowBeforeIsUndo : Type 0
RowBeforeIsUndo = (kind : Kind) (by : TxnName) (w : Write) (k : Key) (r : StampedVersions)
    → forget_row (row_before kind by w k r) ≡ before_write kind by w k (forget_row r)

-- and stamps that are right stay right
abbrev pub RowKeepsStamps : Type 0
RowKeepsStamps = (stamps : TxnName → Option ℕ) (kind : Kind) (by : TxnName) (w : Write) (k : Key)
    (r : StampedVersions) → IsStamped stamps r
    → IsStamped stamps (row_after kind by w k r) × IsStamped stamps (row_before kind by w k r)

-- ---- which rows

-- a row that a write neither writes nor touches stays as it is, also when the write is taken back
abbrev pub OtherRowsStay : Type 0
OtherRowsStay = (kind : Kind) (by : TxnName) (w : Write) (k : Key) (r : StampedVersions)
    → (writes_at kind w k || touches_at w k) ≡ false
    → (row_after kind by w k r ≡ r) × (row_before kind by w k r ≡ r)

-- a row is among those that the write writes or touches, or is such a one
abbrev pub KeysAreAll : Type 0
KeysAreAll = (kind : Kind) (w : Write) (k : Key)
    → (has_key (keys_of kind w ++ ends_of w) k ≡ true)
    ⊎ ((writes_at kind w k || touches_at w k) ≡ false)

-- all rows that writes write or touch are among those that they change
abbrev pub ChangedKeysCover : Type 0
ChangedKeysCover = (kind : Kind) (ws : List Write) (k : Key)
    → (any_writes kind ws k || any_touches ws k) ≡ true → has_key (changed_keys kind ws) k ≡ true

-- when one of them is stamped the others are still left
abbrev pub OthersAreLeft : Type 0
OthersAreLeft = (k : Key) (ks : List Key) (q : Key) → same_key q k ≡ false
    → has_key ks q ≡ true → has_key (keys_but k ks) q ≡ true

-- ---- the rows of a segment, key after key

-- the rows of these keys are changed by f, and the others are as they were
pub record IsDone (f : Key → StampedVersions → StampedVersions) (done : List Key)
    (old new : VersionedRows)
    : Type 0 where
  pub low : new.low ≡ old.low
  pub high : new.high ≡ old.high
  pub rows : (q : Key) → versions_at new q ≡ cond (has_key done q) (f q (versions_at old q))
      (versions_at old q)

abbrev pub NoneIsDone : Type 0
NoneIsDone = (f : Key → StampedVersions → StampedVersions) (s : VersionedRows) → IsDone f [] s s

-- a call of the segment that changes one key more
abbrev pub OneMoreIsDone : Type 0
OneMoreIsDone = (f : Key → StampedVersions → StampedVersions) (done : List Key)
    (old now new : VersionedRows)
    (key : Key) → IsDone f done old now → has_key done key ≡ false
    → ChangesKey now new key (f key (versions_at now key)) → IsDone f (key ∷ done) old new

-- a segment is done when each of its keys is, or needs nothing
abbrev pub AllAreDone : Type 0
AllAreDone = (f : Key → StampedVersions → StampedVersions) (done : List Key)
    (old new : VersionedRows)
    → IsDone f done old new
    → (q : Key) → (has_key done q ≡ true) ⊎ (f q (versions_at old q) ≡ versions_at old q)
    → versions_at new q ≡ f q (versions_at old q)

-- ---- which rows a segment has

-- a change of one key that leaves something there brings one row at most
abbrev pub RowsGrowByOne : Type 0
RowsGrowByOne = (old new : VersionedRows) (key : Key) (vs : StampedVersions) → IsSegment old
    → is_nothing vs ≡ false → ChangesKey old new key vs → length new.rows ≤ length old.rows + 1

-- and takes none away
abbrev pub RowsAreKept : Type 0
RowsAreKept = (old new : VersionedRows) (key : Key) (vs : StampedVersions)
    → is_nothing vs ≡ false → ChangesKey old new key vs
    → (q : Key) → has_row old q ≡ true → has_row new q ≡ true

-- a row that somebody has touched is something
abbrev pub TouchedIsSomething : Type 0
TouchedIsSomething = (by : TxnName) (vs : StampedVersions) → is_nothing (touched by vs) ≡ false
