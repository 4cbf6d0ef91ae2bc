-- What no open transaction sees.
use Rattle.std.specs.Prelude.{◌≡◌, ℕ, ◌≤◌, length, Some}
use Rattle.graph_model.specs.declared.journal.TxnName.{TxnName}
use Rattle.graph_model.specs.OwnerCalls.{Core}
use Rattle.graph_model.specs.Transactions.{Running}
use Rattle.teseo_core.specs.Keeping.{running_in}

-- the stamp is the oldest start of an open transaction, or the newest stamp where none is open
pub record IsHorizon (core : Core) (stamp : ℕ) : Type 0 where
  pub within : stamp ≤ length core.journal
  pub below : (by : TxnName) (t : Running) → running_in core by ≡ Some t → stamp ≤ t.start
  pub greatest : (other : ℕ) → other ≤ length core.journal
      → ((by : TxnName) (t : Running) → running_in core by ≡ Some t → other ≤ t.start) → other ≤ stamp
