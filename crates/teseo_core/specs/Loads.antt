-- A load under way: the first transaction of a new engine.
use Rattle.std.specs.Prelude.{◌≡◌, ℕ, ◌*◌, ◌≤◌, List, [], ◌∷◌, Some}
use Rattle.graph_model.specs.declared.limits.TheConstants.{SPLIT_ROWS}
use Rattle.graph_model.specs.declared.load.LoadRefusal.{LoadRefusal}
use Rattle.graph_model.specs.declared.load.LoadRefusal.TheVariants as refusals
use Rattle.graph_model.specs.declared.write.Write.{Write}
use Rattle.graph_model.specs.declared.journal.Commit.{Commit}
use Rattle.graph_model.specs.declared.journal.TxnName.{TxnName}
use Rattle.graph_model.specs.Loading.{IsNew, IsLoad}
use Rattle.graph_model.specs.OwnerCalls.{Core, current, with_current}
use Rattle.txn_manager.specs.Manager.{Manager, committed}

-- the engine while its first transaction is open and has made these writes
abbrev pub loading : Core → List Write → Core
loading core ws =
    with_current core (record (current core) { start = Some 0; own = ws; begun = 1; made = ws ∷ [] })

-- the engine has begun the transaction of a load, and nothing else
abbrev pub HasBegunLoad : List Write → Core → Type 0
HasBegunLoad load begun = (core : Core) × IsNew core × IsLoad core load × (begun ≡ loading core [])

-- why a load with so many rows is refused
abbrev pub IsTooMuch : ℕ → ℕ → LoadRefusal → Type 0
IsTooMuch leaves rows (refusals.Full full) = (full ≡ leaves) × (SPLIT_ROWS * full ≤ rows)
IsTooMuch leaves rows refusals.NoMemory = Unit {0}

-- the manager's journal, where the open transaction ends with these writes
abbrev pub journal_behind : Manager → TxnName → List Write → List Commit
journal_behind m by [] = m.journal
journal_behind m by (w ∷ ws) = (committed m by (w ∷ ws)).journal
