-- What a shared store shows once all transactions have ended and all rows are stamped.
use Rattle.std.specs.Prelude.{◌≡◌, ℕ, ◌*◌, ◌<◌, ◌≤◌, true, List, [], length, slice_get, Contains, Option, Some, None}
use Rattle.std.specs.List.{AllByRecursion}
use mathlib.Core.List.{IsPrefix}
use Rattle.graph_model.specs.declared.limits.TheConstants.{SPLIT_ROWS}
use Rattle.graph_model.specs.declared.write.Kind.{Kind}
use Rattle.graph_model.specs.declared.row.Key.{Key}
use Rattle.graph_model.specs.declared.journal.TxnName.{TxnName}
use Rattle.graph_model.specs.declared.journal.Commit.{Commit}
use Rattle.graph_model.specs.Account.{Sighting}
use Rattle.graph_model.specs.Conflict.{meets}
use Rattle.graph_model.specs.History.{graph_at}
use Rattle.graph_model.specs.Legal.{IsLegal}
use Rattle.graph_model.specs.Rows.{value_at}
use Rattle.graph_model.specs.Transactions.{stamp_in}
use Rattle.txn_manager.specs.declared.config.Config.{Config}
use Rattle.store_model.specs.Stamped.{Stamped, StampedVersions, prune_stamped}
use Rattle.store_relation.specs.declared.stage.Stage.TheVariants.{Idle}
use Rattle.store_relation.specs.Passes.{PassState, made_of, number_of, writes_by, stamp_by, stamps_of_pass}
use Rattle.store_relation.specs.Shared.{inserted_by_all}

-- each pass has ended its last transaction and stamped all rows of it
abbrev pub AreAtEnd : Config → (ℕ → PassState) → Type 0
AreAtEnd z pass = (p : ℕ) → p < z.passes → ((pass p).stage ≡ Idle) × ((pass p).unstamped ≡ [])

-- the transaction that was named made a clashing write, and its commit, if it has one, is later
-- than the start
pub record IsMatched (kind : Kind) (pass : ℕ → PassState) (journal : List Commit) (x : Sighting)
    : Type 0 where
  pub made : meets kind x.write (writes_by (pass x.by.job) x.by.number) ≡ true
  pub behind : (i : ℕ) (c : Commit) → slice_get journal i ≡ Some c → c.by ≡ x.by → x.start < c.stamp

-- a commit is of a transaction that a pass made, and the pass was answered its stamp
pub record IsMade (z : Config) (pass : ℕ → PassState) (c : Commit) : Type 0 where
  pub inside : c.by.job < z.passes
  pub number : (0 < c.by.number) × (c.by.number ≤ number_of (pass c.by.job))
  pub writes : writes_by (pass c.by.job) c.by.number ≡ c.writes
  pub stamped : stamp_by pass c.by ≡ Some c.stamp
  pub answered : Contains (stamps_of_pass (pass c.by.job)) c.stamp

-- a row that is a value alone
abbrev pub only_value : Option ℕ → StampedVersions
only_value value = record { pairs = []; oldest = value; touches = [] }

abbrev pub HasStamp : Stamped → Type 0
HasStamp x = x.stamp ≡ None → ⊥

-- WHAT A CLOSED STORE SHOWS
pub record IsClosed (z : Config) (pass : ℕ → PassState) (journal : List Commit)
    (rows : Key → StampedVersions)
    : Type 0 where
  pub legal : IsLegal z.kind journal
  pub made : (i : ℕ) (c : Commit) → slice_get journal i ≡ Some c → IsMade z pass c
  -- a transaction has a stamp where the journal has its commit, and nowhere else
  pub kept : (by : TxnName) → stamp_by pass by ≡ stamp_in journal by
  pub seen : (p : ℕ) → IsPrefix (pass p).seen journal
  pub sighted : (p : ℕ) → AllByRecursion (IsMatched z.kind pass journal) (pass p).sighted
  pub filled : (p : ℕ) → (pass p).filled ≡ true → SPLIT_ROWS * z.leaves ≤ inserted_by_all z pass
  pub outside : (p : ℕ) → z.passes ≤ p → made_of (pass p) ≡ []
  -- each record has its stamp, and a prune of a row leaves the newest graph's value alone
  pub stamped : (k : Key) → AllByRecursion HasStamp (rows k).pairs
      × AllByRecursion HasStamp (rows k).touches
  pub settled : (stamps : TxnName → Option ℕ) (k : Key)
      → prune_stamped stamps (length journal) (rows k)
      ≡ only_value (value_at (graph_at z.kind journal (length journal)) k)
