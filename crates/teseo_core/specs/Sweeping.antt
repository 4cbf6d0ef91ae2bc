-- What a sweep takes away.
use Rattle.std.specs.Prelude.{◌≡◌, ℕ, Bool, true, cond, nat_lt}
use Rattle.graph_model.specs.declared.row.Key.{Key}
use Rattle.graph_model.specs.Rows.{is_below, is_between, first_key, end_key}
use Rattle.graph_model.specs.Transactions.{stamp_in}
use Rattle.leaf_rows.specs.LeafStore.Leaves.{Leaves, IsLeafOf, record_count}
use Rattle.leaf_rows.specs.Laying.{PrunesRange}
use Rattle.teseo_core.specs.Freeing.{FreesBehind}
use Rattle.teseo_core.specs.Horizons.{IsHorizon}
use Rattle.teseo_core.specs.Keeping.{Store}

-- from here on, and behind the last leaf from the first one on
abbrev pub from_first : Key → Key
from_first key = cond (is_below key end_key) key first_key

-- The rows of the leaf that has the sweep key are pruned at the horizon, and the key goes on to the next leaf. Behind
-- the last leaf the retired ones are freed. The answer says whether a record went.
pub record Sweeps (old new : Store) (went : Bool) : Type 0 where
  pub core : new.core ≡ old.core
  pub turn : new.turn ≡ old.turn
  pub horizon : ℕ
  pub is : IsHorizon old.core horizon
  pub low : Key
  pub high : Key
  pub leaf : IsLeafOf old.rows low high
  pub holds : is_between low high old.next ≡ true
  -- the rows before leaves are freed
  pub rows : Leaves
  pub prunes : PrunesRange (stamp_in old.core.journal) horizon low high old.rows rows
  pub frees : FreesBehind old.core high rows new.rows
  pub next : new.next ≡ from_first high
  pub went_is : went ≡ nat_lt (record_count rows) (record_count old.rows)
