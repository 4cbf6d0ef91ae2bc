-- The changes that a transaction makes of a row, as one value.
use Rattle.std.specs.Prelude.{◌≡◌, ℕ, ◌<◌, true, false, length}
use Rattle.graph_model.specs.declared.limits.TheConstants.{SEGMENT_ROWS}
use Rattle.graph_model.specs.declared.row.Key.{Key}
use Rattle.graph_model.specs.declared.journal.TxnName.{TxnName}
use Rattle.graph_model.specs.Rows.{is_between}
use Rattle.store_model.specs.Stamped.{StampedVersions}
use Rattle.row_table.specs.UndoChainDeclared.touched.Touched.{Touched}
use Rattle.row_table.specs.UndoChainDeclared.touched.Touched.TheVariants.{Never}
use Rattle.version_segment.specs.declared.change.RowChange.{RowChange}
use Rattle.version_segment.specs.declared.change.RowChange.TheVariants.{Write, Undo, Touch, Untouch}
use Rattle.row_table.specs.Rows.{VersionedRows, versions_at, has_row, has_record, written, undone, touched, untouched}

-- what a change makes of a row's versions
abbrev pub changed : RowChange → TxnName → StampedVersions → StampedVersions
changed (Write value) by versions = written by value versions
changed Undo by versions = undone versions
changed (Touch earlier) by versions = touched by versions
changed Untouch by versions = untouched by versions

-- so many records it may put
abbrev pub records_for : RowChange → ℕ
records_for (Write value) = 1
records_for Undo = 0
records_for (Touch earlier) = 1
records_for Untouch = 0

-- a value may be written within the fence keys, where a row that is missing finds a place
pub record MayWrite (key : Key) (s : VersionedRows) : Type 0 where
  pub within : is_between s.low s.high key ≡ true
  pub spare : 0 < s.spare
  pub room : has_row s key ≡ false → length s.rows < SEGMENT_ROWS

-- a touch may be noted in a row that is there; where none of the transaction is said to be there, none is
pub record MayTouch (earlier : Touched) (by : TxnName) (key : Key) (s : VersionedRows) : Type 0 where
  pub row : has_row s key ≡ true
  pub spare : 0 < s.spare
  pub never : earlier ≡ Never → has_record by (versions_at s key).touches ≡ false

-- the segment has what the change needs
abbrev pub MayChange : RowChange → TxnName → Key → VersionedRows → Type 0
MayChange (Write value) by key s = MayWrite key s
MayChange Undo by key s = Unit {0}
MayChange (Touch earlier) by key s = MayTouch earlier by key s
MayChange Untouch by key s = Unit {0}
