-- Open transactions over a journal: what keeps their writes apart, and what a commit makes of them.
use Rattle.std.specs.Prelude.{◌≡◌, ℕ, ◌+◌, ◌<◌, ◌≤◌, Bool, false, cond, nat_le, List, [], ◌∷◌, length, slice_get, Option, Some, None}
use Rattle.std.specs.List.{AllByRecursion, list_any}
use Rattle.graph_model.specs.declared.write.Kind.{Kind}
use Rattle.graph_model.specs.declared.write.Write.{Write}
use Rattle.graph_model.specs.declared.journal.Commit.{Commit}
use Rattle.graph_model.specs.declared.journal.TxnName.{TxnName}
use Rattle.graph_model.specs.Conflict.{OpenTxn, same_name, meets}
use Rattle.graph_model.specs.History.{graph_at}
use Rattle.graph_model.specs.Legal.{IsLegal, have_clash}
use Rattle.graph_model.specs.Refused.{AllAllowed, IsWithinLimits}

-- an open transaction: the start of its snapshot, and its writes so far
pub record Running : Type 0 where
  pub start : ℕ
  pub writes : List Write

abbrev pub writes_of_running : Option Running → List Write
writes_of_running None = []
writes_of_running (Some t) = t.writes

-- Open transactions are a function of names: `None` for a name that none of them has.
-- The writes of the transaction with this name, none if it isn't open:
abbrev pub own_of : (TxnName → Option Running) → TxnName → List Write
own_of running by = writes_of_running (running by)

-- one transaction is begun, goes on or ends, and the others stay as they are
pub record Changes (by : TxnName) (old new : TxnName → Option Running) (to : Option Running) : Type 0 where
  pub here : new by ≡ to
  pub else : (q : TxnName) → same_name q by ≡ false → new q ≡ old q

-- the commit that an open transaction makes now
abbrev pub commit_of : List Commit → TxnName → Running → Commit
commit_of journal by t = record { stamp = length journal + 1; start = t.start; by = by; writes = t.writes }

abbrev pub has_name : List TxnName → TxnName → Bool
has_name names by = list_any (same_name by) names

-- no commit is by this name
abbrev pub HasNotCommitted : List Commit → TxnName → Type 0
HasNotCommitted journal by = (i : ℕ) (c : Commit) → slice_get journal i ≡ Some c → same_name c.by by ≡ false

-- the commit stamp of a transaction, if it has committed
abbrev pub stamp_in : List Commit → TxnName → Option ℕ
stamp_in [] by = None
stamp_in (c ∷ cs) by = cond (same_name c.by by) (Some c.stamp) (stamp_in cs by)

-- a transaction with this commit stamp, if it has one, had committed by then
abbrev pub reached : Option ℕ → ℕ → Bool
reached None then = false
reached (Some stamp) then = nat_le stamp then

-- no other open transaction holds a write that clashes with w
abbrev pub MeetsNoHolder : Kind → (TxnName → Option Running) → TxnName → Write → Type 0
MeetsNoHolder kind running by w = (q : TxnName) → same_name q by ≡ false → meets kind w (own_of running q) ≡ false

-- An open transaction began within the journal and not below the horizon, its snapshot allows its
-- writes, none of them clashes with a commit behind its start, and it has not committed.
pub record IsRunning (kind : Kind) (journal : List Commit) (horizon : ℕ) (by : TxnName) (t : Running) : Type 0 where
  pub started : t.start ≤ length journal
  pub pinned : horizon ≤ t.start
  pub allowed : AllAllowed kind (graph_at kind journal t.start) t.writes
  pub within : AllByRecursion IsWithinLimits t.writes
  pub unnamed : HasNotCommitted journal by
  pub before : (i : ℕ) (c : Commit) → slice_get journal i ≡ Some c → t.start < c.stamp
      → have_clash kind c.writes t.writes ≡ false

-- the journal is legal, and no two open transactions hold writes that clash
pub record AreTransactions (kind : Kind) (journal : List Commit) (running : TxnName → Option Running) (horizon : ℕ)
    : Type 0 where
  pub legal : IsLegal kind journal
  pub behind : horizon ≤ length journal
  pub each : (by : TxnName) (t : Running) → running by ≡ Some t → IsRunning kind journal horizon by t
  pub apart : (a b : TxnName) → same_name a b ≡ false → have_clash kind (own_of running a) (own_of running b) ≡ false

-- the list has exactly the open transactions, no two of one job
pub record IsListed (txns : List OpenTxn) (running : TxnName → Option Running) : Type 0 where
  pub sound : (i : ℕ) (x : OpenTxn) → slice_get txns i ≡ Some x
      → (t : Running) × (running x.by ≡ Some t) × (t.writes ≡ x.writes)
  pub complete : (by : TxnName) (t : Running) → running by ≡ Some t
      → (i : ℕ) × (slice_get txns i ≡ Some (record { by = by; writes = t.writes }))
  pub jobs : (a b : TxnName) (t u : Running) → running a ≡ Some t → running b ≡ Some u → a.job ≡ b.job → a ≡ b
