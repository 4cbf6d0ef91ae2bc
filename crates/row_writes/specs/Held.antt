-- Rows of the cells that a writer holds, what a write needs of them, and what each call does to them.
use Rattle.std.specs.Prelude.{◌≡◌, ℕ, ◌+◌, ◌<◌, ◌≤◌, Bool, true, false, ◌&&◌, not, cond, List, count_by}
use Rattle.std.specs.List.{AllByRecursion, list_any}
use Rattle.graph_model.specs.declared.row.Key.{Key}
use Rattle.graph_model.specs.declared.journal.TxnName.{TxnName}
use Rattle.graph_model.specs.Effects.{same_key}
use Rattle.store_model.specs.Stamped.{StampedVersions}
use Rattle.undo_chain.specs.declared.touched.Touched.{Touched}
use Rattle.undo_chain.specs.declared.touched.Touched.TheVariants.{Never}
use Rattle.version_segment.specs.declared.change.RowChange.{RowChange}
use Rattle.version_segment.specs.declared.change.RowChange.TheVariants.{Write, Undo, Touch, Untouch}
use Rattle.version_segment.specs.Changes.{changed, records_for}
use Rattle.version_segment.specs.Rows.{has_record}

-- What a write can find and use up.
pub record HeldRows : Type 0 where
  -- the cell of the key is held
  pub holds : Key → Bool
  pub versions : Key → StampedVersions
  pub has_row : Key → Bool
  -- the one key's cell is the other's
  pub shares : Key → Key → Bool
  -- for so many rows more the key's cell has room
  pub room : Key → ℕ
  -- and for so many records more
  pub spare : Key → ℕ
  -- how full all is, as a number to which each row that comes adds one
  pub weight : ℕ

-- a key whose cell is held lies in it
abbrev pub HaveCells : HeldRows → Type 0
HaveCells c = (k : Key) → c.holds k ≡ true → c.shares k k ≡ true

-- ---- what a write needs

-- the cells of these keys are held
abbrev pub AreHeld : HeldRows → List Key → Type 0
AreHeld c keys = AllByRecursion (λ k. c.holds k ≡ true) keys

-- each of these keys has a row
abbrev pub HaveRows : HeldRows → List Key → Type 0
HaveRows c keys = AllByRecursion (λ k. c.has_row k ≡ true) keys

-- how many of these keys have no row and share the key's cell
abbrev pub wanted : HeldRows → Key → List Key → ℕ
wanted c k keys = count_by (λ q. not (c.has_row q) && c.shares k q) keys

-- each of these keys that is missing finds a place, those that share a cell together
abbrev pub HaveRoom : HeldRows → List Key → Type 0
HaveRoom c keys = (k : Key) → c.has_row k ≡ false → wanted c k keys ≤ c.room k

-- the cells of these keys have room for so many records each
abbrev pub HaveSpare : ℕ → HeldRows → List Key → Type 0
HaveSpare count c keys = (q : Key) → list_any (same_key q) keys ≡ true → count ≤ c.spare q

-- the transaction has touched none of the rows
abbrev pub HasTouchedNone : HeldRows → TxnName → Type 0
HasTouchedNone c by = (k : Key) → has_record by (c.versions k).touches ≡ false

-- ---- one change

-- a value may be written where there is room for the record, and for the row if it is missing
pub record AllowsWrite (c : HeldRows) (key : Key) : Type 0 where
  pub spare : 0 < c.spare key
  pub room : c.has_row key ≡ false → 0 < c.room key

-- a touch may be noted in a row that is there; where none of the transaction is said to be there, none is
pub record AllowsTouch (earlier : Touched) (by : TxnName) (c : HeldRows) (key : Key) : Type 0 where
  pub row : c.has_row key ≡ true
  pub spare : 0 < c.spare key
  pub never : earlier ≡ Never → has_record by (c.versions key).touches ≡ false

abbrev pub AllowsChange : RowChange → TxnName → HeldRows → Key → Type 0
AllowsChange (Write value) by c key = AllowsWrite c key
AllowsChange Undo by c key = Unit {0}
AllowsChange (Touch earlier) by c key = AllowsTouch earlier by c key
AllowsChange Untouch by c key = Unit {0}

-- a write alone brings a row, where the key has none
abbrev pub rows_for : RowChange → Bool → ℕ
rows_for (Write value) has_row = cond has_row 0 1
rows_for Undo has_row = 0
rows_for (Touch earlier) has_row = 0
rows_for Untouch has_row = 0

-- The versions of one key are changed, and no others. No key's cell becomes another, and the key's own is the only one
-- with less room.
pub record Changes (change : RowChange) (by : TxnName) (old new : HeldRows) (key : Key) : Type 0 where
  pub versions : (q : Key) → new.versions q
      ≡ cond (same_key q key) (changed change by (old.versions q)) (old.versions q)
  pub others : (q : Key) → same_key q key ≡ false → new.has_row q ≡ old.has_row q
  -- a record that is put stands in a row
  pub stands : 0 < records_for change → new.has_row key ≡ true
  pub holds : (q : Key) → new.holds q ≡ old.holds q
  pub shares : (p q : Key) → new.shares p q ≡ old.shares p q
  pub room : (q : Key) → old.room q ≤ new.room q + cond (old.shares q key) (rows_for change (old.has_row key)) 0
  pub spare : (q : Key) → old.spare q ≤ new.spare q + records_for change
  pub weight : new.weight ≤ old.weight + rows_for change (old.has_row key)

-- ---- room for records

-- there is more room for records, or as much, and nothing else has changed
pub record Reserves (old new : HeldRows) : Type 0 where
  pub versions : (q : Key) → new.versions q ≡ old.versions q
  pub rows : (q : Key) → new.has_row q ≡ old.has_row q
  pub holds : (q : Key) → new.holds q ≡ old.holds q
  pub shares : (p q : Key) → new.shares p q ≡ old.shares p q
  pub room : (q : Key) → new.room q ≡ old.room q
  pub spare : (q : Key) → old.spare q ≤ new.spare q
  pub weight : new.weight ≡ old.weight
