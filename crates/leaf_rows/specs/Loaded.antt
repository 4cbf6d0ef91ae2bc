-- Rows without records: those of a load, and those of a store that is settled.
use Rattle.std.specs.Prelude.{◌≡◌, ℕ, ◌*◌, ◌≤◌, List, []}
use Rattle.std.specs.List.{AllByRecursion}
use Rattle.graph_model.specs.declared.limits.TheConstants.{MAX_LEAVES, SPLIT_ROWS}
use Rattle.graph_model.specs.declared.row.Key.{Key}
use Rattle.graph_model.specs.declared.write.Kind.{Kind}
use Rattle.graph_model.specs.declared.write.Write.{Write}
use Rattle.graph_model.specs.Graph.{Graph, empty_graph}
use Rattle.graph_model.specs.Loading.{IsAdd}
use Rattle.graph_model.specs.Refused.{AllAllowed, IsWithinLimits}
use Rattle.graph_model.specs.Rows.{value_at}
use Rattle.store_model.specs.declared.versions.Versions.{Versions}
use Rattle.store_model.specs.Versions.{no_versions}
use Rattle.txn_manager.specs.declared.config.RoomRefusal.{RoomRefusal}
use Rattle.txn_manager.specs.declared.config.RoomRefusal.TheVariants as refusals
use Rattle.leaf_store.specs.Leaves.{Leaves, contents_of, weight}

-- a row that has its graph's value and no record
abbrev pub settled_in : Graph → Key → Versions
settled_in g k = record { pairs = []; oldest = value_at g k; touches = [] }

-- all rows are the graph's, and settled
abbrev pub AreSettled : Leaves → Graph → Type 0
AreSettled s g = (k : Key) → contents_of s k ≡ settled_in g k

-- no rows
pub record AreNone (leaves : ℕ) (s : Leaves) : Type 0 where
  pub contents : (k : Key) → contents_of s k ≡ no_versions
  pub limit : s.limit ≡ leaves
  pub weight : weight s ≡ 0
  pub retired : s.retired ≡ []

-- the rows of a graph, of which a load inserts so many at most
pub record AreLoaded (leaves : ℕ) (g : Graph) (most : ℕ) (s : Leaves) : Type 0 where
  pub settled : AreSettled s g
  pub limit : s.limit ≡ leaves
  pub weight : weight s ≤ most
  pub retired : s.retired ≡ []

-- writes that the empty graph allows one after the other, for a store with so many leaves
pub record IsLegalLoad (leaves : ℕ) (kind : Kind) (load : List Write) : Type 0 where
  pub some : 1 ≤ leaves
  pub few : leaves ≤ MAX_LEAVES
  pub adds : AllByRecursion IsAdd load
  pub within : AllByRecursion IsWithinLimits load
  pub allowed : AllAllowed kind empty_graph load

-- why no store has the rows of a load
abbrev pub IsLoadTooLarge : ℕ → ℕ → RoomRefusal → Type 0
IsLoadTooLarge leaves most (refusals.Full full) = (full ≡ leaves) × (SPLIT_ROWS * leaves ≤ most)
IsLoadTooLarge leaves most refusals.NoMemory = Unit {0}
