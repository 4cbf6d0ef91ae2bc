-- What a manager's calls mean for the open transactions with their writes. Each is the contract of a
-- function in `laws`.
use Rattle.std.specs.Prelude.{◌≡◌, ℕ, ◌<◌, ◌≤◌, length, Option, Some, None, is_some, option_map}
use Rattle.graph_model.specs.declared.write.Kind.{Kind}
use Rattle.graph_model.specs.declared.journal.TxnName.{TxnName}
use Rattle.graph_model.specs.Transactions.{Running, Changes, AreTransactions}
use Rattle.txn_manager.specs.Manager.{Manager, new_manager, txns_of, open_start, next_name, opened, ended}
use Rattle.txn_manager.specs.Manager.{committed, horizon_of, IsManaged}

-- these are the manager's open transactions, each under its name and with its start
abbrev pub AreOpenIn : Manager → (TxnName → Option Running) → Type 0
AreOpenIn m running = (by : TxnName) → option_map (λ t. t.start) (running by) ≡ open_start m by

-- ---- how they go on

-- a new manager has none
abbrev pub NoneIsOpenAtFirst : Type 0
NoneIsOpenAtFirst = (passes allowed : ℕ) → AreOpenIn (new_manager passes allowed) (λ by. None)

-- one is begun where the pass has none, and sees the whole journal
abbrev pub OpenedIsOpen : Type 0
OpenedIsOpen =
    (m : Manager) (running : TxnName → Option Running) → AreOpenIn m running
    → (pass : ℕ) → pass < length m.passes → (txns_of m pass).start ≡ None
    → (running' : TxnName → Option Running) (t : Running) → t.start ≡ length m.journal
    → Changes (next_name m pass) running running' (Some t)
    → AreOpenIn (opened m pass) running'

-- one goes on with other writes
abbrev pub WrittenIsOpen : Type 0
WrittenIsOpen =
    (m : Manager) (running : TxnName → Option Running) → AreOpenIn m running
    → (by : TxnName) (t : Running) → running by ≡ Some t
    → (running' : TxnName → Option Running) (u : Running) → u.start ≡ t.start
    → Changes by running running' (Some u)
    → AreOpenIn m running'

-- one is gone, with a commit or without
abbrev pub EndedIsGone : Type 0
EndedIsGone =
    (m : Manager) (running : TxnName → Option Running) → AreOpenIn m running
    → (by : TxnName) (t : Running) → running by ≡ Some t
    → (running' : TxnName → Option Running) → Changes by running running' None
    → AreOpenIn (ended m by) running' × AreOpenIn (committed m by t.writes) running'

-- and whoever the manager has open is one of them
abbrev pub OpenIsRunning : Type 0
OpenIsRunning =
    (m : Manager) (running : TxnName → Option Running) → AreOpenIn m running
    → (by : TxnName) → is_some (open_start m by) ≡ is_some (running by)

-- ---- the journal

-- Where each write of an open transaction was checked when it was made, its commit leaves a legal journal.
abbrev pub CheckedCommitIsLegal : Type 0
CheckedCommitIsLegal =
    (kind : Kind) (m : Manager) (running : TxnName → Option Running) (horizon : ℕ)
    → AreOpenIn m running → AreTransactions kind m.journal running horizon
    → (by : TxnName) (t : Running) → running by ≡ Some t → 0 < length t.writes
    → (running' : TxnName → Option Running) → Changes by running running' None
    → AreTransactions kind (committed m by t.writes).journal running' horizon

-- ---- the horizon

-- no open transaction began below it
abbrev pub HorizonIsBelow : Type 0
HorizonIsBelow =
    (m : Manager) (running : TxnName → Option Running) → AreOpenIn m running
    → (by : TxnName) (t : Running) → running by ≡ Some t → horizon_of m ≤ t.start

-- it is a stamp of the journal
abbrev pub HorizonIsWithin : Type 0
HorizonIsWithin = (m : Manager) → IsManaged m → horizon_of m ≤ length m.journal

-- and none above it is below all starts
abbrev pub HorizonIsGreatest : Type 0
HorizonIsGreatest =
    (m : Manager) (running : TxnName → Option Running) → AreOpenIn m running
    → (stamp : ℕ) → stamp ≤ length m.journal
    → ((by : TxnName) (t : Running) → running by ≡ Some t → stamp ≤ t.start)
    → stamp ≤ horizon_of m
