-- How a journal and its open transactions go on: one law for each kind of change. Each is the contract
-- of a function in `transactions`.
use Rattle.std.specs.Prelude.{◌≡◌, ◌⊎◌, ℕ, ◌+◌, ◌<◌, ◌≤◌, true, false, List, [], ◌∷◌, ◌++◌, length, slice_get, slice_set, Option, Some, None}
use Rattle.graph_model.specs.declared.write.Kind.{Kind}
use Rattle.graph_model.specs.declared.write.Write.{Write}
use Rattle.graph_model.specs.declared.journal.Commit.{Commit}
use Rattle.graph_model.specs.declared.journal.TxnName.{TxnName}
use Rattle.graph_model.specs.Refused.{refused, IsWithinLimits}
use Rattle.graph_model.specs.History.{view}
use Rattle.graph_model.specs.ConflictLaws.{NoLater}
use Rattle.graph_model.specs.Transactions.{Running, Changes, commit_of, HasNotCommitted, stamp_in, reached, MeetsNoHolder, AreTransactions, IsListed}
use Rattle.graph_model.specs.Passes.{latest_name, of_latest, revised, state_in, open_txns_of}

-- before the first begin nothing is committed and nothing is open
abbrev pub NoneAtFirst : Type 0
NoneAtFirst = (kind : Kind) → AreTransactions kind [] (λ by. None) 0

-- A transaction begins: its name is new, it sees the whole journal and has written nothing.
abbrev pub BeginKeeps : Type 0
BeginKeeps =
    (kind : Kind) (journal : List Commit) (running : TxnName → Option Running) (horizon : ℕ)
    → AreTransactions kind journal running horizon
    → (by : TxnName) (running' : TxnName → Option Running)
    → Changes by running running' (Some (record { start = length journal; writes = [] }))
    → HasNotCommitted journal by
    → AreTransactions kind journal running' horizon

-- It makes a write that its view allows, and that clashes with no open transaction and no later commit.
abbrev pub WriteKeeps : Type 0
WriteKeeps =
    (kind : Kind) (journal : List Commit) (running : TxnName → Option Running) (horizon : ℕ)
    → AreTransactions kind journal running horizon
    → (by : TxnName) (running' : TxnName → Option Running) (t : Running) → running by ≡ Some t
    → (w : Write)
    → Changes by running running' (Some (record { start = t.start; writes = t.writes ++ w ∷ [] }))
    → refused (view kind journal t.start t.writes) w ≡ None
    → IsWithinLimits w
    → MeetsNoHolder kind running by w
    → NoLater kind journal t.start w
    → AreTransactions kind journal running' horizon

-- It commits, if it has written anything: so the longer journal is legal.
abbrev pub CommitKeeps : Type 0
CommitKeeps =
    (kind : Kind) (journal : List Commit) (running : TxnName → Option Running) (horizon : ℕ)
    → AreTransactions kind journal running horizon
    → (by : TxnName) (running' : TxnName → Option Running) (t : Running) → running by ≡ Some t
    → Changes by running running' None
    → 0 < length t.writes
    → AreTransactions kind (journal ++ commit_of journal by t ∷ []) running' horizon

-- It ends without a commit.
abbrev pub EndKeeps : Type 0
EndKeeps =
    (kind : Kind) (journal : List Commit) (running : TxnName → Option Running) (horizon : ℕ)
    → AreTransactions kind journal running horizon
    → (by : TxnName) (running' : TxnName → Option Running)
    → Changes by running running' None
    → AreTransactions kind journal running' horizon

-- The horizon goes to any stamp of the journal that isn't above the start of an open transaction.
abbrev pub HorizonKeeps : Type 0
HorizonKeeps =
    (kind : Kind) (journal : List Commit) (running : TxnName → Option Running) (horizon horizon' : ℕ)
    → AreTransactions kind journal running horizon
    → horizon' ≤ length journal
    → ((by : TxnName) (t : Running) → running by ≡ Some t → horizon' ≤ t.start)
    → AreTransactions kind journal running horizon'

-- ---- stamps by name

-- a commit's name has its stamp, and reaches exactly the stamps from its own on
abbrev pub CommitHasItsStamp : Type 0
CommitHasItsStamp =
    (kind : Kind) (journal : List Commit) (running : TxnName → Option Running) (horizon : ℕ)
    → AreTransactions kind journal running horizon
    → (i : ℕ) (c : Commit) → slice_get journal i ≡ Some c
    → (stamp_in journal c.by ≡ Some c.stamp)
    × ((s : ℕ) → i < s → reached (stamp_in journal c.by) s ≡ true)
    × ((s : ℕ) → s ≤ i → reached (stamp_in journal c.by) s ≡ false)

-- whoever has not committed has no stamp
abbrev pub OpenHasNoStamp : Type 0
OpenHasNoStamp = (journal : List Commit) (by : TxnName) → HasNotCommitted journal by → stamp_in journal by ≡ None

-- a stamp stays while the journal grows
abbrev pub StampStays : Type 0
StampStays =
    (journal more : List Commit) (by : TxnName) (stamp : ℕ)
    → stamp_in journal by ≡ Some stamp → stamp_in (journal ++ more) by ≡ Some stamp

-- ---- passes, over any type of their states

-- where a pass comes to another state, what is open changes at this name alone
abbrev pub OpenChanges : {S : Type 0} → TxnName → (S → ℕ) → (S → Option Running) → (ℕ → S) → ℕ → S → Type 0
OpenChanges by number current pass p to =
    Changes by (of_latest number current None pass) (of_latest number current None (revised pass p to)) (current to)

-- a step of a pass with an open transaction that goes on, or ends, changes that transaction alone
abbrev pub LatestChanges : Type 0 → Type 0
LatestChanges S =
    (number : S → ℕ) (current : S → Option Running) (pass : ℕ → S) (p : ℕ) (state : S)
    → (number state ≡ number (pass p)) ⊎ (current state ≡ None)
    → OpenChanges (latest_name number pass p) number current pass p state

-- a begin on a pass where none is open changes the next transaction alone
abbrev pub NextBegins : Type 0 → Type 0
NextBegins S =
    (number : S → ℕ) (current : S → Option Running) (pass : ℕ → S) (p : ℕ) (state : S)
    → current (pass p) ≡ None
    → OpenChanges (record { job = p; number = number state }) number current pass p state

-- of passes in a list, the list of the open transactions has exactly these
abbrev pub OpenAreListed : Type 0 → Type 0
OpenAreListed S =
    (number : S → ℕ) (current : S → Option Running) (other : S) → current other ≡ None
    → (from : ℕ) (states : List S)
    → IsListed (open_txns_of number current from states) (of_latest number current None (state_in other from states))

-- and a list with one state set has that state at its pass
abbrev pub ListIsRevised : Type 0 → Type 0
ListIsRevised S =
    (other : S) (from : ℕ) (states : List S) (i : ℕ) (state : S) → i < length states
    → (q : ℕ)
    → state_in other from (slice_set states i state) q ≡ revised (state_in other from states) (from + i) state q
