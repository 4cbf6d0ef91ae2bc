-- What the calls do to versions is what the definitions of a store say, and a segment is a cell of it.
use Rattle.std.specs.Prelude.{◌≡◌, ℕ, Bool, true, false, cond, List, [], ◌∷◌, ◌++◌, map, Option, Some, None}
use Rattle.std.specs.Ordering.{eq_by_cmp}
use Rattle.graph_model.specs.declared.row.Key.{Key}
use Rattle.graph_model.specs.declared.journal.TxnName.{TxnName}
use Rattle.graph_model.specs.Rows.{key_cmp}
use Rattle.store_model.specs.Versions.{write, undo, touch, untouch}
use Rattle.store_model.specs.Stamped.{Stamped, StampedVersions, IsStamped, forget_row, prune_stamped}
use Rattle.graph_model.specs.declared.state.State.{State}
use Rattle.graph_model.specs.declared.state.State.TheVariants.{Live, Committed, Aborted}
use Rattle.store_model.specs.Check.{check}
use Rattle.row_table.specs.UndoChainDeclared.states.Snapshot.{Snapshot}
use Rattle.row_table.specs.Checks.{blocked_by}
use Rattle.store_model.specs.Cells.{Cell, contents_in}
use Rattle.row_table.specs.Rows.{VersionedRows, IsSegment, versions_at, ChangesKey, PrunesRows, SharesRows, written, undone, touched, untouched}

-- ---- one row

abbrev pub WrittenIsWrite : Type 0
WrittenIsWrite = (by : TxnName) (value : Option ℕ) (vs : StampedVersions)
    → forget_row (written by value vs) ≡ write by value (forget_row vs)

abbrev pub UndoneIsUndo : Type 0
UndoneIsUndo = (vs : StampedVersions) → forget_row (undone vs) ≡ undo (forget_row vs)

abbrev pub TouchedIsTouch : Type 0
TouchedIsTouch = (by : TxnName) (vs : StampedVersions) → forget_row (touched by vs) ≡ touch by (forget_row vs)

abbrev pub UntouchedIsUntouch : Type 0
UntouchedIsUntouch = (by : TxnName) (vs : StampedVersions) → forget_row (untouched by vs) ≡ untouch by (forget_row vs)

-- stamps that are right stay right
pub record ChangesKeepStamps (stamps : TxnName → Option ℕ) (vs : StampedVersions) : Type 0 where
  pub write : (by : TxnName) (value : Option ℕ) → IsStamped stamps (written by value vs)
  pub undo : IsStamped stamps (undone vs)
  pub touch : (by : TxnName) → IsStamped stamps (touched by vs)
  pub untouch : (by : TxnName) → IsStamped stamps (untouched by vs)

abbrev pub StampsStayRight : Type 0
StampsStayRight = (stamps : TxnName → Option ℕ) (vs : StampedVersions)
    → IsStamped stamps vs → ChangesKeepStamps stamps vs

-- ---- all rows

-- a change of one key changes its versions, and none beside
abbrev pub KeyChanged : Type 0
KeyChanged = (old new : VersionedRows) (key : Key) (vs : StampedVersions) → ChangesKey old new key vs
    → (q : Key) → versions_at new q ≡ cond (eq_by_cmp key_cmp q key) vs (versions_at old q)

-- a prune prunes the versions of each key
abbrev pub KeysPruned : Type 0
KeysPruned = (stamps : TxnName → Option ℕ) (horizon : ℕ) (old new : VersionedRows)
    → IsSegment old → PrunesRows stamps horizon old new
    → (q : Key) → versions_at new q ≡ prune_stamped stamps horizon (versions_at old q)

-- a move keeps the rows of both, with all their versions
abbrev pub RowsShared : Type 0
RowsShared = (left right left' right' : VersionedRows) (count : ℕ) → SharesRows left right left' right' count
    → left'.rows ++ right'.rows ≡ left.rows ++ right.rows

-- ---- cells

-- the segment as a cell of a store, without the stamps
abbrev pub cell_of : VersionedRows → Cell
cell_of s = record { low = s.low; high = s.high; rows = map (λ row. (row.0, forget_row row.1)) s.rows }

abbrev pub ContentsOfSegment : Type 0
ContentsOfSegment = (s : VersionedRows) (q : Key) → contents_in (cell_of s).rows q ≡ forget_row (versions_at s q)

-- ---- checks

-- a state is what whoever knows all transactions says of one: which are open, and the stamps of commits
abbrev pub IsFit : (TxnName → Bool) → (TxnName → Option ℕ) → TxnName → State → Type 0
IsFit is_live stamps by Live = (is_live by ≡ true) × (stamps by ≡ None)
IsFit is_live stamps by (Committed stamp) = (is_live by ≡ false) × (stamps by ≡ Some stamp)
IsFit is_live stamps by Aborted = (is_live by ≡ false) × (stamps by ≡ None)

abbrev pub AreFit : (TxnName → Bool) → (TxnName → Option ℕ) → List Stamped → List State → Type 0
AreFit is_live stamps [] [] = Unit {0}
AreFit is_live stamps (p ∷ ps) (state ∷ states) = IsFit is_live stamps p.by state × AreFit is_live stamps ps states
AreFit is_live stamps [] (state ∷ states) = ⊥
AreFit is_live stamps (p ∷ ps) [] = ⊥

-- for such states the answer is that of the check over names
abbrev pub BlockedIsCheck : Type 0
BlockedIsCheck = (is_live : TxnName → Bool) (stamps : TxnName → Option ℕ) (snapshot : Snapshot)
    (ps : List Stamped) (states : List State)
    → AreFit is_live stamps ps states
    → blocked_by snapshot ps states ≡ check is_live stamps snapshot.start snapshot.own (map (λ p. p.by) ps)
