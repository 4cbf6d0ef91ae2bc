-- Retired leaves that were freed.
use Rattle.std.specs.Prelude.{◌≡◌, ℕ}
use Rattle.epoch_reclaim.specs.declared.sweep.Sweep.{Sweep}
use Rattle.pass_steps.specs.RuleModel.Sight.{IndexState}
use Rattle.pass_steps.specs.StoreRuleDeclared.store.Pass.{Pass}
use Rattle.pass_steps.specs.StoreRuleDeclared.store.Store.{Store}
use Rattle.pass_steps.specs.Passes.{pin_of, state_of}
use Rattle.pass_sweeps.specs.Sweeping.{HasIndexOnly, leaves_freed}
use Rattle.pass_sweeps.specs.declared.index.LeavesFreed.{LeavesFreed}

-- those with a stamp below this one
abbrev pub until_of : LeavesFreed → ℕ
until_of freed = freed.until

-- the pass has the index in hand, in which those are free that a whole sweep lets go
pub record HasFreed (store : Store) (pass : Pass) (sweep : Sweep) : Type 0 where
  pub index : IndexState
  pub only : HasIndexOnly store pass (state_of pass) (pin_of pass) index
  pub whole : sweep.looked ≡ store.accounts.config.passes
  pub before : IndexState
  pub is : index.index ≡ (leaves_freed sweep before).index
