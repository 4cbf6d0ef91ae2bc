-- What the loops over rows and lists keep, here and in version_segment.
use Rattle.std.specs.Prelude.{◌≡◌, ℕ, suc, ◌+◌, ◌≤◌, List, ◌++◌, take, drop, length, Option}
use Rattle.graph_model.specs.declared.row.Key.{Key}
use Rattle.graph_model.specs.declared.row.Row.{Row}
use Rattle.graph_model.specs.declared.journal.TxnName.{TxnName}
use Rattle.graph_model.specs.declared.state.State.{State}
use Rattle.graph_model.specs.declared.refusal.Cause.{Cause}
use Rattle.graph_model.specs.Conflict.{same_name}
use Rattle.store_model.specs.Check.{combine}
use Rattle.store_model.specs.Stamped.{Stamped, StampedVersions, read_stamped}
use Rattle.gap_segment.specs.Fenced.{FencedRows}
use Rattle.head_map.specs.UndoChainDeclared.undo.Undo.{Undo}
use Rattle.head_map.specs.UndoChainDeclared.states.Snapshot.{Snapshot}
use Rattle.head_map.specs.UndoChain.Records.{pairs_of}
use Rattle.head_map.specs.UndoChain.Chains.{ChainMap, list_at, IsLinkOf}
use Rattle.head_map.specs.UndoChain.States.{Knowledge, Grows}
use Rattle.head_map.specs.UndoChain.Walks.{IsAsked}
use Rattle.row_table.specs.Checks.{blocked, IsStateBy, IsChecked, drops_in}
use Rattle.row_table.specs.Rows.{all_records, pruned_rows, rows_read}
use Rattle.head_map.specs.Heads.{ChangedRow}
use Rattle.head_map.specs.Heads.{HeadTable}
use Rattle.row_table.specs.Parts.{touches_of, versioned, AreParts}

-- what one record says against a write
pub record IsOneChecked (old new : Knowledge) (snapshot : Snapshot) (undo : Undo) (cause : Option Cause) : Type 0 where
  pub state : State
  pub stands : IsStateBy old new (same_name undo.by snapshot.own) undo.stamp undo.by state
  pub is : cause ≡ blocked snapshot undo.by state

-- the touches before the link have been asked for; they are the last of the row's
pub record IsTouchWalk (c : ChainMap) (old now : Knowledge) (snapshot : Snapshot) (head link : Option ℕ)
    (cause : Option Cause) : Type 0 where
  pub is_link : IsLinkOf c link
  pub asked : IsAsked c old now link
  pub done : List Stamped
  pub split : touches_of (list_at c link) ++ done ≡ touches_of (list_at c head)
  pub checked : IsChecked old now snapshot done cause

-- the removals before the link have been asked for: what those behind it say, combined with the cause, is what
-- all say
pub record IsDropWalk (c : ChainMap) (old now : Knowledge) (snapshot : Snapshot) (base : Option ℕ) (head : Option ℕ)
    (value link : Option ℕ) (cause : Option Cause) : Type 0 where
  pub is_link : IsLinkOf c link
  pub asked : IsAsked c old now link
  pub rest : (new : Knowledge) (final : Option Cause) → Grows now new
      → IsChecked old new snapshot (drops_in (pairs_of value (list_at c link))) final
      → IsChecked old new snapshot (drops_in (pairs_of base (list_at c head))) (combine cause final)

-- the row at the place
abbrev pub row_of : List (Key × StampedVersions) → ℕ → List (Key × StampedVersions)
row_of rows place = take 1 (drop place rows)

-- the row at the place is pruned, and nothing else has changed
abbrev pub with_pruned : (TxnName → Option ℕ) → ℕ → ℕ → List (Key × StampedVersions) → List (Key × StampedVersions)
with_pruned stamps horizon place rows =
    take place rows ++ (pruned_rows stamps horizon (row_of rows place) ++ drop (suc place) rows)

-- the parts after one row is pruned
pub record PrunesRow (stamps : TxnName → Option ℕ) (horizon place : ℕ) (rows rows' : FencedRows)
    (heads heads' : HeadTable) (c c' : ChainMap) : Type 0 where
  pub parts : AreParts rows' heads'.entries c'
  pub low : rows'.low ≡ rows.low
  pub high : rows'.high ≡ rows.high
  pub pruned : versioned c' heads'.entries rows'.rows
      ≡ with_pruned stamps horizon place (versioned c heads.entries rows.rows)
  pub spare : heads.spare ≤ heads'.spare
  pub room : c.spare ≤ c'.spare
  pub freed : c'.spare + all_records (pruned_rows stamps horizon (row_of (versioned c heads.entries rows.rows) place))
      ≡ c.spare + all_records (row_of (versioned c heads.entries rows.rows) place)

-- the rows from the place on are pruned
pub record ArePruned (stamps : TxnName → Option ℕ) (horizon place : ℕ) (rows rows' : FencedRows)
    (heads heads' : HeadTable) (c c' : ChainMap) : Type 0 where
  pub parts : AreParts rows' heads'.entries c'
  pub low : rows'.low ≡ rows.low
  pub high : rows'.high ≡ rows.high
  pub within : place ≤ length rows.rows
  pub pruned : versioned c' heads'.entries rows'.rows
      ≡ take place (versioned c heads.entries rows.rows)
      ++ pruned_rows stamps horizon (drop place (versioned c heads.entries rows.rows))
  pub spare : heads.spare ≤ heads'.spare
  pub room : c.spare ≤ c'.spare
  pub freed : c'.spare + all_records (pruned_rows stamps horizon (drop place (versioned c heads.entries rows.rows)))
      ≡ c.spare + all_records (drop place (versioned c heads.entries rows.rows))

-- the rows of a run up to the place have been read
pub record IsFilled (c : ChainMap) (heads : List ChangedRow) (old now : Knowledge) (snapshot : Snapshot)
    (run : List Row) (place : ℕ) (buffer : List Row) : Type 0 where
  pub rows : buffer
      ≡ rows_read (read_stamped old.stamps snapshot.start snapshot.own) (versioned c heads (take place run))
  pub grows : Grows old now
