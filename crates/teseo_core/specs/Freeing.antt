-- Retired leaves that no transaction needs any more, and rows that are brought together.
use Rattle.std.specs.Prelude.{◌≡◌, ◌⊎◌, ℕ, ◌-◌, min, Bool, true, false, length, unwrap_or, Result}
use Rattle.items.specs.declared.memory.NoMemory.{NoMemory}
use Rattle.graph_model.specs.declared.row.Key.{Key}
use Rattle.graph_model.specs.OwnerCalls.{Core}
use Rattle.graph_model.specs.Rows.{is_below, end_key}
use Rattle.txn_manager.specs.declared.config.RoomRefusal.{RoomRefusal}
use Rattle.txn_manager.specs.Manager.{Manager, least_pin_of}
use Rattle.leaf_rows.specs.LeafStoreDeclared.pair.TheConstants.{STAMPS_END}
use Rattle.leaf_rows.specs.LeafStore.Changes.{IsRoomRefusal}
use Rattle.leaf_rows.specs.LeafStore.Leaves.{Leaves}
use Rattle.leaf_rows.specs.LeafStore.Merging.{FreesRetired, IsMergeStep}
use Rattle.leaf_rows.specs.Laying.{IsSpent, KeepsContents}
use Rattle.teseo_core.specs.Horizons.{IsHorizon}
use Rattle.teseo_core.specs.Keeping.{Store, NoneOpen}

-- ---- which leaves can be freed

-- the least start of an open transaction, or above all stamps where none is open
abbrev pub free_bound : Manager → ℕ
free_bound m = unwrap_or (least_pin_of m) STAMPS_END

-- retired leaves with stamps below this one can be freed: no open transaction began so early, or none is open
abbrev pub IsFreeBound : Core → ℕ → Type 0
IsFreeBound core until = IsHorizon core until × (¬ NoneOpen core) ⊎ NoneOpen core × (until ≡ STAMPS_END)

-- all retired leaves that can be freed are free
abbrev pub FreesLeaves : Core → Leaves → Leaves → Type 0
FreesLeaves core old new = (until : ℕ) × IsFreeBound core until × FreesRetired until old new

-- behind the last leaf they are, and before it nothing happens
abbrev pub FreesBehind : Core → Key → Leaves → Leaves → Type 0
FreesBehind core high old new =
    (is_below high end_key ≡ true → new ≡ old) × (is_below high end_key ≡ false → FreesLeaves core old new)

-- no window has room, no leaf is free, and no retired one can be freed; or memory is wanted
abbrev pub RefusesRoom : Store → Key → ℕ → RoomRefusal → Store → Type 0
RefusesRoom old key need refusal new = IsRoomRefusal old.rows key need refusal new.rows
    × ((until : ℕ) × IsFreeBound old.core until × IsSpent until new.rows refusal)

-- ---- rows that are brought together

-- a leaf that is retired has the clock as its stamp
abbrev pub retire_stamp : Core → ℕ
retire_stamp core = min (length core.journal) (STAMPS_END - 1)

-- a step of merging: each key keeps what it has, and nothing but rows changes
pub record Merges (old new : Store) (result : Result Bool NoMemory) : Type 0 where
  pub same : new ≡ record old { rows = new.rows }
  pub contents : KeepsContents old.rows new.rows
  pub steps : IsMergeStep old.rows new.rows (retire_stamp old.core) result
