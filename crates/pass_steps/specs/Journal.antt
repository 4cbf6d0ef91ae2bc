-- A pass that has taken the journal.
use Rattle.std.specs.Prelude.{◌≡◌, ◌+◌, [], ◌∷◌}
use Rattle.seat_views.specs.Keeping.{without}
use Rattle.store_rule.specs.StoreRelation.Passes.{PassState}
use Rattle.store_rule.specs.StoreRelation.Shared.{JournalState}
use Rattle.store_rule.specs.RuleModel.Sight.{HasJournal, PinState, cells_of}
use Rattle.store_rule.specs.declared.buffers.TheConstants.{MOST_UNPACKED}
use Rattle.store_rule.specs.declared.slot.StoreSlot.TheVariants as slots
use Rattle.store_rule.specs.declared.store.Pass.{Pass}
use Rattle.store_rule.specs.declared.store.Store.{Store}
use Rattle.pass_steps.specs.Passes.{IsPassOf, pin_of, state_of}

-- it holds the journal, of which it knows this, and nothing else
pub record HasTaken (store : Store) (pass : Pass) (st : PassState) (x : PinState) (j : JournalState)
    : Type 0 where
  pub of : IsPassOf store pass
  pub latch : pass.latch.me.1 ≡ (cells_of store.accounts.config + 1, slots.Out) ∷ []
  pub buffers : pass.buffers ≡ MOST_UNPACKED
  pub state : state_of pass ≡ st
  pub pin : pin_of pass ≡ x
  pub journal : HasJournal pass.account.me.0 j
  pub alone : without 0 pass.account.me.0.journals ≡ []
  pub cells : pass.account.me.0.cells ≡ []
  pub indexes : pass.account.me.0.indexes ≡ []
