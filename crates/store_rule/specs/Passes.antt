-- What a pass knows, and what a call leaves of it.
use Rattle.std.specs.Prelude.{◌≡◌, ◌≢◌, ℕ, ◌+◌, ◌≤◌, [], None, vec_capacity}
use Rattle.seat_views.specs.Keeping.{kept_at}
use Rattle.loaded_cells.specs.StoreRelation.Passes.{PassState}
use Rattle.loaded_cells.specs.RuleModel.Sight.{HasPass, HasPin, PinState, Sight, cells_of}
use Rattle.store_words.specs.Steps.{Knows}
use Rattle.store_rule.specs.declared.store.Pass.{Pass}
use Rattle.store_rule.specs.declared.store.Passes.{Passes}
use Rattle.store_rule.specs.declared.store.Store.{Store}

-- only the account seat has stepped, and knows that now
pub record OnlyAccount (old new : Pass) (sight : Sight) : Type 0 where
  pub number : new.number ≡ old.number
  pub latch : new.latch ≡ old.latch
  pub buffers : new.buffers ≡ old.buffers
  pub account : Knows old.account new.account sight

-- a seat that knows one pass, with its pin, and no other one; it is no reader
pub record IsSightOf (p : ℕ) (v : Sight) : Type 0 where
  pub state : PassState
  pub has : HasPass v p state
  pub pin : PinState
  pub pinned : HasPin v p pin
  pub only : (q : ℕ) → q ≢ p → kept_at v.passes q ≡ None
  pub readers : v.readers ≡ []

-- the seats that take passes back are of the store's tables, and are no readers; the lists are empty, and have the room
pub record AreIn (store : Store) (passes : Passes) : Type 0 where
  pub latch : passes.latch.table_id ≡ store.latches.table.shared.table_id
  pub account : passes.account.table_id ≡ store.accounts.table.shared.table_id
  pub slots : passes.account.me.1 ≡ []
  pub readers : passes.account.me.0.readers ≡ []
  pub no_slots : passes.slots.items ≡ []
  pub slots_room : cells_of store.accounts.config + 2 ≤ vec_capacity passes.slots
  pub no_cells : passes.cells.items ≡ []
  pub cells_room : cells_of store.accounts.config ≤ vec_capacity passes.cells
