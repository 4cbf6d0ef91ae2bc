-- When a write may be laid in rows, the room that it wants, and what calls leave.
use Rattle.std.specs.Prelude.{◌≡◌, ℕ, ◌+◌, ◌-◌, ◌*◌, ◌^◌, ◌<◌, ◌≤◌, min, true, false, not, List, [], count_by, Option}
use Rattle.graph_model.specs.declared.limits.TheConstants.{SPLIT_ROWS}
use Rattle.graph_model.specs.declared.row.Key.{Key}
use Rattle.graph_model.specs.declared.journal.TxnName.{TxnName}
use Rattle.graph_model.specs.declared.write.Kind.{Kind}
use Rattle.graph_model.specs.declared.write.Write.{Write}
use Rattle.graph_model.specs.Effects.{keys_of}
use Rattle.graph_model.specs.Rows.{is_between}
use Rattle.graph_model.specs.Transactions.{has_name}
use Rattle.txn_manager.specs.declared.config.RoomRefusal.{RoomRefusal}
use Rattle.txn_manager.specs.declared.config.RoomRefusal.TheVariants as refusals
use Rattle.store_model.specs.Versions.{prune}
use Rattle.leaf_store.specs.Leaves.{Leaves, IsLeafOf, cell_at, contents_of, has_row, record_count, room_at, shares, weight}
use Rattle.leaf_index.specs.Calls.{freed_of}
use Rattle.leaf_store.specs.Changes.{IsFull}
use Rattle.leaf_store.specs.declared.store.Pruned.{Pruned}
use Rattle.row_writes.specs.Held as held
use Rattle.row_writes.specs.Laying as laying
use Rattle.leaf_rows.specs.Held.{rows_in}

-- how many of the rows that a write writes are missing
abbrev pub missing : Leaves → Kind → Write → ℕ
missing s kind w = count_by (λ k. not (has_row s k)) (keys_of kind w)

-- each of these keys has a row
abbrev pub HaveRows : Leaves → List Key → Type 0
HaveRows s keys = held.HaveRows (rows_in s) keys

-- a write may be laid: an edge has two ends, and one that is added touches them
abbrev pub MayLay : Leaves → Write → Type 0
MayLay s w = laying.MayLay (rows_in s) w

-- the transaction has touched no row
abbrev pub HasTouchedNone : Leaves → TxnName → Type 0
HasTouchedNone s by = (k : Key) → has_name (contents_of s k).touches by ≡ false

-- how many of these keys have no row and share the key's cell
abbrev pub wanted : Leaves → Key → List Key → ℕ
wanted s k keys = held.wanted (rows_in s) k keys

-- each of these keys that is missing finds a place, those that share a cell together
abbrev pub HaveRoom : Leaves → List Key → Type 0
HaveRoom s keys = held.HaveRoom (rows_in s) keys

-- each key has what it had, and no more leaves are used up
pub record KeepsContents (old new : Leaves) : Type 0 where
  pub contents : (k : Key) → contents_of new k ≡ contents_of old k
  pub rows : (k : Key) → has_row new k ≡ has_row old k
  pub limit : new.limit ≡ old.limit
  pub weight : weight new ≤ weight old

-- the same, and no leaf is retired or freed
pub record Stays (old new : Leaves) : Type 0 where
  pub contents : (k : Key) → contents_of new k ≡ contents_of old k
  pub rows : (k : Key) → has_row new k ≡ has_row old k
  pub limit : new.limit ≡ old.limit
  pub weight : weight new ≤ weight old
  pub retired : new.retired ≡ old.retired

-- why there is no room for rows with these keys
abbrev pub IsNoPlace : Leaves → List Key → RoomRefusal → Type 0
IsNoPlace s keys (refusals.Full leaves) =
    (leaves ≡ s.limit) × (SPLIT_ROWS * leaves ≤ weight s)
    × ((k : Key) × (need : ℕ) × (need ≡ wanted s k keys) × (room_at s k < need) × IsFull s k need)
IsNoPlace s keys refusals.NoMemory = Unit {0}

-- where no leaf is free, no retired leaf has a stamp below the given one either
abbrev pub IsSpent : ℕ → Leaves → RoomRefusal → Type 0
IsSpent until s (refusals.Full leaves) = freed_of until s.retired ≡ []
IsSpent until s refusals.NoMemory = Unit {0}

-- the versions of the keys that share the key's cell are pruned, and no others; the cells have the fence keys that
-- they had
pub record PrunesKeys (stamps : TxnName → Option ℕ) (horizon : ℕ) (old new : Leaves) (key : Key) : Type 0 where
  pub pruned : (q : Key) → shares old key q ≡ true → contents_of new q ≡ prune stamps horizon (contents_of old q)
  pub others : (q : Key) → shares old key q ≡ false → contents_of new q ≡ contents_of old q
  pub fences : (p q : Key) → shares new p q ≡ shares old p q

-- the versions of the keys from the low one on and below the high one are pruned, and no others
pub record PrunesRange (stamps : TxnName → Option ℕ) (horizon : ℕ) (low high : Key) (old new : Leaves) : Type 0 where
  pub pruned : (q : Key) → is_between low high q ≡ true → contents_of new q ≡ prune stamps horizon (contents_of old q)
  pub others : (q : Key) → is_between low high q ≡ false → contents_of new q ≡ contents_of old q

-- so many records have gone, up to the last number
pub record AreGone (records : ℕ) (old new : Leaves) : Type 0 where
  pub count : records ≡ min (record_count old - record_count new) (2 ^ 64 - 1)
  pub fewer : record_count new ≤ record_count old

-- so many records went from the cell that has the key, which ends there, and no leaf more is used up
pub record SweepsCell (old new : Leaves) (key : Key) (pruned : Pruned) : Type 0 where
  pub went : pruned.records + record_count new ≡ record_count old
  pub high : pruned.high ≡ (cell_at old key).high
  pub holds : shares old key key ≡ true
  pub limit : new.limit ≡ old.limit
  pub weight : weight new ≤ weight old

-- the rows of the leaf that has the key are pruned, and no others: so many records went, and there the leaf ends
pub record PrunesLeaf (stamps : TxnName → Option ℕ) (horizon : ℕ) (old new : Leaves) (key : Key) (pruned : Pruned)
    : Type 0 where
  pub low : Key
  pub leaf : IsLeafOf old low pruned.high
  pub holds : is_between low pruned.high key ≡ true
  pub prunes : PrunesRange stamps horizon low pruned.high old new
  pub went : AreGone pruned.records old new
