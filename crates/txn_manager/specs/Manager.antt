-- What a manager of transactions has, what each of its calls makes of it, and what it answers.
use Rattle.std.specs.Prelude.{ℕ, ◌+◌, ◌≤◌, Bool, true, false, min, List, [], ◌∷◌, ◌++◌, length, replicate}
use Rattle.std.specs.Prelude.{slice_set, Option, Some, None, IsSome, IfSome, is_some, unwrap_or}
use Rattle.std.specs.List.{filter_map, reduce}
use Rattle.graph_model.specs.declared.write.Write.{Write}
use Rattle.graph_model.specs.declared.journal.Begun.{Begun}
use Rattle.graph_model.specs.declared.journal.Commit.{Commit}
use Rattle.graph_model.specs.declared.journal.TxnName.{TxnName}
use Rattle.graph_model.specs.declared.state.State.{State}
use Rattle.graph_model.specs.declared.state.State.TheVariants.{Live, Committed, Aborted}
use Rattle.graph_model.specs.Transactions.{Running, HasNotCommitted, commit_of, stamp_in}
use Rattle.graph_model.specs.Passes.{of_latest, state_in}

-- the transactions of a pass: how many it has begun, and the start of the one that is open
pub record PassTxns : Type 0 where
  pub begun : ℕ
  pub start : Option ℕ

pub record Manager : Type 0 where
  pub journal : List Commit
  -- how many commits may be put into the journal with no memory taken
  pub spare : ℕ
  pub passes : List PassTxns
  -- how many transactions a pass may begin
  pub allowed : ℕ

abbrev pub no_txns : PassTxns
no_txns = record { begun = 0; start = None }

-- a manager of so many passes that have begun nothing
abbrev pub new_manager : ℕ → ℕ → Manager
new_manager passes allowed =
    record { journal = []; spare = 0; passes = replicate passes no_txns; allowed = allowed }

-- the transactions of the pass with this number
abbrev pub txns_of : Manager → ℕ → PassTxns
txns_of m = state_in no_txns 0 m.passes

-- the start of the open transaction with this name, if there is one
abbrev pub open_start : Manager → TxnName → Option ℕ
open_start m = of_latest (λ p. p.begun) (λ p. p.start) None (txns_of m)

-- the name that the pass's next transaction gets
abbrev pub next_name : Manager → ℕ → TxnName
next_name m pass = record { job = pass; number = (txns_of m pass).begun + 1 }

-- and what its begin answers
abbrev pub next_begun : Manager → ℕ → Begun
next_begun m pass = record { by = next_name m pass; start = length m.journal }

-- ---- what the calls make of it

abbrev pub with_txns : Manager → ℕ → PassTxns → Manager
with_txns m pass txns = record m { passes = slice_set m.passes pass txns }

-- the pass has begun one more, which sees the whole journal
abbrev pub opened : Manager → ℕ → Manager
opened m pass =
    with_txns m pass (record { begun = (txns_of m pass).begun + 1; start = Some (length m.journal) })

-- the pass has none open any more
abbrev pub ended : Manager → TxnName → Manager
ended m by = with_txns m by.job (record { begun = (txns_of m by.job).begun; start = None })

-- the open transaction with this name, where it has made these writes
abbrev pub running_with : Manager → TxnName → List Write → Running
running_with m by writes = record { start = unwrap_or (open_start m by) 0; writes = writes }

-- and its commit stands at the end of the journal
abbrev pub committed : Manager → TxnName → List Write → Manager
committed m by writes =
    record (ended m by) { journal = m.journal ++ commit_of m.journal by (running_with m by writes) ∷ [] }

-- ---- what it answers

abbrev pub state_from : Option ℕ → Bool → State
state_from (Some stamp) is_open = Committed stamp
state_from None true = Live
state_from None false = Aborted

-- a transaction has committed with its stamp, or is open, or has ended without a commit
abbrev pub state_of : Manager → TxnName → State
state_of m by = state_from (stamp_in m.journal by) (is_some (open_start m by))

-- the starts of the open transactions
abbrev pub starts_of : List PassTxns → List ℕ
starts_of passes = filter_map (λ p. p.start) passes

-- the oldest start of an open transaction
abbrev pub least_pin_of : Manager → Option ℕ
least_pin_of m = reduce min (starts_of m.passes)

-- the stamp below which no open transaction reads: the oldest start, or the clock where none is open
abbrev pub horizon_of : Manager → ℕ
horizon_of m = unwrap_or (least_pin_of m) (length m.journal)

-- ---- what holds of every manager

pub record IsManaged (m : Manager) : Type 0 where
  -- each open transaction can commit with no memory taken
  pub room : length (starts_of m.passes) ≤ m.spare
  -- no pass has begun more than it may
  pub used : (pass : ℕ) → (txns_of m pass).begun ≤ m.allowed
  -- an open transaction began within the journal
  pub started : (by : TxnName) → IfSome (open_start m by) (λ start. start ≤ length m.journal)
  -- and hasn't committed
  pub uncommitted : (by : TxnName) → IsSome (open_start m by) → HasNotCommitted m.journal by
