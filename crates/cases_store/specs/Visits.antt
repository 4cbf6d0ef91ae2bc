-- Passes between two visits of cells.
use Rattle.std.specs.Prelude.{◌≡◌, ℕ, List, length, slice_get, Some}
use Rattle.latch_table.specs.Latched.{number_of}
use Rattle.store_rule.specs.Closing.{IsBackPass}
use Rattle.store_rule.specs.declared.buffers.TheConstants.{MOST_UNPACKED}
use Rattle.store_rule.specs.declared.store.Pass.{Pass}
use Rattle.store_rule.specs.declared.store.Store.{Store}

-- it holds no cell and has no open transaction, and has room for all cells that it may unpack
pub record IsAtEase (store : Store) (pass : Pass) : Type 0 where
  pub back : IsBackPass store.latches.table.shared.key store.latches.table.shared.table_id
      store.accounts.table.shared.table_id (number_of pass.latch.me.0) pass
  pub buffers : pass.buffers ≡ MOST_UNPACKED

-- these are all passes of a store, in the order of their numbers
pub record AreAtEase (store : Store) (list : List Pass) : Type 0 where
  pub count : length list ≡ store.accounts.config.passes
  pub each : (p : ℕ) (pass : Pass) → slice_get list p ≡ Some pass
      → IsAtEase store pass × (number_of pass.latch.me.0 ≡ p)

-- what it knows of passes is as it was, and so is its room
pub record KeepsPass (old new : Pass) : Type 0 where
  pub buffers : old.buffers ≡ MOST_UNPACKED → new.buffers ≡ MOST_UNPACKED
  pub table : new.account.table_id ≡ old.account.table_id
  pub slots : new.account.me.1 ≡ old.account.me.1
  pub passes : new.account.me.0.passes ≡ old.account.me.0.passes
  pub readers : new.account.me.0.readers ≡ old.account.me.0.readers

-- between two visits, and the same pass
pub record StaysAtEase (store : Store) (old new : Pass) : Type 0 where
  pub ease : IsAtEase store new
  pub number : number_of new.latch.me.0 ≡ number_of old.latch.me.0
