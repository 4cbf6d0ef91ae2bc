-- An engine of one owner over rows in leaves: which transactions are open, and what the engine keeps.
use Rattle.std.specs.Prelude.{◌≡◌, ℕ, ◌<◌, ◌≤◌, ◌/◌, Bool, List, [], map, length, replicate, Option, Some, None}
use Rattle.std.specs.FinMap as fin_map
use Rattle.graph_model.specs.declared.limits.TheConstants.{MAX_LEAVES}
use Rattle.graph_model.specs.declared.write.Kind.{Kind}
use Rattle.graph_model.specs.declared.write.Kind.TheVariants.{Directed, Undirected}
use Rattle.graph_model.specs.declared.journal.TxnName.{TxnName}
use Rattle.graph_model.specs.declared.row.Key.{Key}
use Rattle.graph_model.specs.Graph.{Graph}
use Rattle.graph_model.specs.History.{graph_at}
use Rattle.graph_model.specs.OwnerCalls.{PassState, Core, pass_at, running_of, inserted_here}
use Rattle.graph_model.specs.OwnerLaws.{IsChosen}
use Rattle.graph_model.specs.Passes.{of_latest}
use Rattle.graph_model.specs.Rows.{first_key}
use Rattle.graph_model.specs.Transactions.{Running}
use Rattle.txn_manager.specs.declared.config.Config.{Config}
use Rattle.txn_manager.specs.Manager.{Manager, PassTxns, txns_of}
use Rattle.store_model.specs.Store.{IsPlainStore}
use Rattle.leaf_rows.specs.LeafStore.Leaves.{Leaves, contents_of, record_count, weight}
use Rattle.leaf_rows.specs.LeafStore.Merging.{IsCompact}
use Rattle.leaf_rows.specs.Loaded.{AreNone, AreSettled}
use Rattle.teseo_core.specs.declared.serve.ServiceTurn.{ServiceTurn}
use Rattle.teseo_core.specs.declared.serve.ServiceTurn.TheVariants.{Sweep}
use Rattle.teseo_core.specs.Passes.{RoomyPass, new_pass}

-- the core before its first transaction
abbrev pub new_core : Config → Core
new_core config = record {
  kind = config.kind;
  leaves = config.leaves;
  journal = [];
  passes = replicate config.passes (new_pass config.txns_per_pass);
  selected = 0;
  served = 0;
}

abbrev pub states_of : List RoomyPass → List PassState
states_of passes = map (λ p. p.state) passes

-- the core of an engine with these fields
abbrev pub core_of : Kind → ℕ → Manager → List RoomyPass → ℕ → ℕ → Core
core_of kind leaves m passes selected served = record {
  kind = kind;
  leaves = leaves;
  journal = m.journal;
  passes = states_of passes;
  selected = selected;
  served = served;
}

-- the open transactions of a core, by their names
abbrev pub running_in : Core → TxnName → Option Running
running_in core = of_latest (λ s. s.begun) running_of None (pass_at core)

abbrev pub txns_in : PassState → PassTxns
txns_in s = record { begun = s.begun; start = s.start }

-- the manager has the journal and the transactions of the core
pub record AreTied (core : Core) (m : Manager) : Type 0 where
  pub journal : m.journal ≡ core.journal
  pub count : length m.passes ≡ length core.passes
  pub each : (p : ℕ) → txns_of m p ≡ txns_in (pass_at core p)
  pub allowed : (p : ℕ) → p < length core.passes → (pass_at core p).allowed ≡ m.allowed

-- WHAT THE ENGINE KEEPS
pub record IsKept (core : Core) (m : Manager) (rows : Leaves) : Type 0 where
  -- rows are pruned at stamps up to this one
  pub horizon : ℕ
  pub store : IsPlainStore core.kind core.journal (running_in core) horizon (contents_of rows)
  pub chosen : IsChosen core
  pub tied : AreTied core m
  -- a pass has begun no more than it may
  pub used : (p : ℕ) → (pass_at core p).begun ≤ (pass_at core p).allowed
  -- an open transaction has its place among those that the pass has made
  pub made : (p start : ℕ) → (pass_at core p).start ≡ Some start → 0 < length (pass_at core p).made
  -- the leaves are no fuller than the rows that the writes may have inserted can make them
  pub weight_is : weight rows ≤ inserted_here core
  pub limit : rows.limit ≡ core.leaves
  pub some : 1 ≤ core.leaves
  pub few : core.leaves ≤ MAX_LEAVES

-- no pass has an open transaction
abbrev pub NoneOpen : Core → Type 0
NoneOpen core = (p : ℕ) → (pass_at core p).start ≡ None

-- an undirected edge is two arcs, and counts once
abbrev pub edges_of : Kind → Graph → ℕ
edges_of Directed g = fin_map.len g.arcs
edges_of Undirected g = fin_map.len g.arcs / 2

-- the graph of the whole journal
abbrev pub newest_graph : Core → Graph
newest_graph core = graph_at core.kind core.journal (length core.journal)

-- ---- what contracts see

-- an engine, its rows, the key whose leaf the next sweep takes, and what the next turn of the service does
pub record Store : Type 0 where
  pub core : Core
  pub rows : Leaves
  pub next : Key
  pub turn : ServiceTurn

-- neither the sweep key nor the turn of the service has moved
abbrev pub KeepsService : Store → Store → Type 0
KeepsService old new = (new.next ≡ old.next) × (new.turn ≡ old.turn)

-- a new engine, whose rows are none
pub record IsNewStore (config : Config) (s : Store) : Type 0 where
  pub core : s.core ≡ new_core config
  pub rows : AreNone config.leaves s.rows
  pub next : s.next ≡ first_key
  pub turn : s.turn ≡ Sweep

-- No record and no retired leaf is left: each key has what the newest graph has there, and nothing besides. No window
-- is to be spread, and no two neighbours are to become one leaf.
pub record IsSettled (s : Store) : Type 0 where
  pub rows : AreSettled s.rows (newest_graph s.core)
  pub records : record_count s.rows ≡ 0
  pub retired : s.rows.retired ≡ []
  pub compact : IsCompact s.rows

-- what an engine leaves: its core, and whether its rows had no record, and no leaf was retired
pub record LeftStore : Type 0 where
  pub core : Core
  pub settled : Bool
