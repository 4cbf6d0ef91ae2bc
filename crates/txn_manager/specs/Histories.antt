-- How a manager keeps its transactions: for each pass the stamps of those that have committed, by number.
use Rattle.std.specs.Prelude.{◌≡◌, ◌==◌, ℕ, zero, suc, ◌-◌, ◌^◌, ◌<◌, ◌≤◌, cond, List, [], ◌∷◌, ◌++◌, map, length}
use Rattle.std.specs.Prelude.{slice_get, slice_set, Option, Some, None, is_some, unwrap_or}
use Rattle.items.specs.Room.{WithRoom}
use Rattle.graph_model.specs.declared.journal.Commit.{Commit}
use Rattle.graph_model.specs.declared.journal.TxnName.{TxnName}
use Rattle.graph_model.specs.declared.state.State.{State}
use Rattle.graph_model.specs.Transactions.{stamp_in}
use Rattle.graph_model.specs.Passes.{state_in}
use Rattle.txn_manager.specs.declared.history.PassHistory.{PassHistory}
use Rattle.txn_manager.specs.Manager.{PassTxns, Manager, starts_of, state_from}

abbrev pub no_history : PassHistory
no_history = record { start = None; stamps = [] }

-- the history of the pass with this number
abbrev pub history_of : List PassHistory → ℕ → PassHistory
history_of = state_in no_history 0

abbrev pub txns_in : PassHistory → PassTxns
txns_in h = record { begun = length h.stamps; start = h.start }

-- what a manager with these fields has
abbrev pub manager_of : WithRoom Commit → List PassHistory → ℕ → Manager
manager_of journal histories allowed =
    record { journal = journal.items; spare = journal.spare; passes = map txns_in histories; allowed = allowed }

-- ---- one pass

-- the stamp of the transaction with this number, which counts from 1
abbrev pub stamp_at : List (Option ℕ) → ℕ → Option ℕ
stamp_at stamps zero = None
stamp_at stamps (suc place) = unwrap_or (slice_get stamps place) None

-- its start, if it is open
abbrev pub start_at : PassHistory → ℕ → Option ℕ
start_at h number = cond (number == length h.stamps) h.start None

-- and where it stands
abbrev pub state_at : PassHistory → ℕ → State
state_at h number = state_from (stamp_at h.stamps number) (is_some (start_at h number))

-- one more transaction, which is open
abbrev pub with_open : PassHistory → ℕ → PassHistory
with_open h start = record { start = Some start; stamps = h.stamps ++ None ∷ [] }

-- the open transaction has ended
abbrev pub with_none : PassHistory → PassHistory
with_none h = record { start = None; stamps = h.stamps }

-- it has ended with a commit
abbrev pub with_stamp : PassHistory → ℕ → PassHistory
with_stamp h stamp = record { start = None; stamps = slice_set h.stamps (length h.stamps - 1) (Some stamp) }

-- ---- what they keep

-- an open transaction began within the journal, is the latest of its pass, and has no stamp
pub record IsCurrent (clock : ℕ) (stamps : List (Option ℕ)) (start : ℕ) : Type 0 where
  pub started : start ≤ clock
  pub latest : 0 < length stamps
  pub pending : stamp_at stamps (length stamps) ≡ None

-- a pass has begun no more than it may
pub record IsHistory (clock allowed : ℕ) (h : PassHistory) : Type 0 where
  pub used : length h.stamps ≤ allowed
  pub current : (start : ℕ) → h.start ≡ Some start → IsCurrent clock h.stamps start

-- the stamps of all passes are those of the journal
pub record AreHistories (journal : List Commit) (allowed : ℕ) (history : ℕ → PassHistory) : Type 0 where
  pub each : (pass : ℕ) → IsHistory (length journal) allowed (history pass)
  pub stamps : (by : TxnName) → stamp_at (history by.job).stamps by.number ≡ stamp_in journal by

-- what a manager's fields keep
pub record IsKept (journal : WithRoom Commit) (histories : List PassHistory) (allowed : ℕ) : Type 0 where
  -- numbers of transactions fit their type
  pub small : allowed < 2 ^ 32
  -- each open transaction can commit with no memory taken
  pub room : length (starts_of (map txns_in histories)) ≤ journal.spare
  pub recorded : AreHistories journal.items allowed (history_of histories)
