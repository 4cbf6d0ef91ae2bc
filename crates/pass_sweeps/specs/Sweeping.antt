-- A pass that sweeps over the pins, and what its calls leave of it.
use Rattle.std.specs.Prelude.{◌≡◌, ℕ, ◌≤◌, List, [], ◌∷◌, length, Option, Some, None, unwrap_or}
use Rattle.std.specs.declared.alloc.Global.{Global}
use mathlib.Core.List.{IsPrefix}
use Rattle.atomic_table.specs.Table.{Allows}
use Rattle.atomic_table.specs.declared.shared.Seat.{Seat}
use Rattle.graph_model.specs.declared.journal.Commit.{Commit}
use Rattle.graph_model.specs.Legal.{IsLegal}
use Rattle.txn_manager.specs.declared.config.Config.{Config}
use Rattle.leaf_index.specs.Calls.{freed, new_index}
use Rattle.pass_steps.specs.LeafStoreDeclared.pair.TheConstants.{STAMPS_END}
use Rattle.seat_views.specs.Keeping.{kept_at, without}
use Rattle.epoch_reclaim.specs.declared.sweep.Sweep.{Sweep}
use Rattle.epoch_reclaim.specs.Pinned.{horizon_of}
use Rattle.pass_steps.specs.StoreRelation.Passes.{PassState}
use Rattle.pass_steps.specs.StoreRelation.Steps.{refreshed}
use Rattle.pass_steps.specs.RuleModel.Places.{lines}
use Rattle.pass_steps.specs.RuleModel.Rule.{IsStoreRule}
use Rattle.pass_steps.specs.RuleModel.Sight.{HasIndex, IndexState, PinState, Sight, cells_of, with_pass}
use Rattle.pass_steps.specs.StoreRule.Passes.{OnlyAccount}
use Rattle.pass_steps.specs.StoreRuleDeclared.buffers.TheConstants.{MOST_UNPACKED}
use Rattle.pass_steps.specs.StoreRuleDeclared.slot.StoreSlot.TheVariants as slots
use Rattle.pass_steps.specs.StoreRuleDeclared.store.Pass.{Pass}
use Rattle.pass_steps.specs.StoreRuleDeclared.store.Store.{Store}
use Rattle.pass_steps.specs.Passes.{IsPassOf, pin_of, state_of}

-- ---- what a view has

abbrev pub no_index : IndexState
no_index = record { index = new_index 0; sweeper = None }

abbrev pub index_in : Sight → IndexState
index_in v = unwrap_or (kept_at v.indexes 0) no_index

-- a pin with this sweep
abbrev pub with_sweep : PinState → Option Sweep → PinState
with_sweep x sweep = record x { sweep = sweep }

-- ---- steps

-- only the account seat has stepped; of its view the pass's sweep alone is another
pub record OnlySweep (old new : Pass) (sweep : Option Sweep) : Type 0 where
  pub number : new.number ≡ old.number
  pub latch : new.latch ≡ old.latch
  pub buffers : new.buffers ≡ old.buffers
  pub table : new.account.table_id ≡ old.account.table_id
  pub slots : new.account.me.1 ≡ old.account.me.1
  pub passes : new.account.me.0.passes ≡ old.account.me.0.passes
  pub pin : kept_at new.account.me.0.pins old.number ≡ Some (with_sweep (pin_of old) sweep)
  pub cells : new.account.me.0.cells ≡ old.account.me.0.cells
  pub indexes : new.account.me.0.indexes ≡ old.account.me.0.indexes
  pub journals : new.account.me.0.journals ≡ old.account.me.0.journals
  pub told : new.account.me.0.told ≡ old.account.me.0.told
  pub readers : new.account.me.0.readers ≡ old.account.me.0.readers
  pub reads : new.account.me.0.reads ≡ old.account.me.0.reads

-- a seat may load the clock: with the number it is told which commits are published, and it knows that then
abbrev pub MaySee : Config → Seat (Unit {0}) Sight → (List Commit → Sight → Sight)
    → (ℕ → List Commit → Sight → Type 0) → Type 0
MaySee z seat next told =
    (heap : Global) → Allows (IsStoreRule z (lines z.passes) heap) seat.table_id.slots seat.id seat.me
    (lines z.passes).clock (λ n. n)
    (λ n m. (commits : List Commit) × (m ≡ (next commits seat.me.0, seat.me.1)) × told n commits seat.me.0)

-- the pass has seen all commits that were published at a moment since its sweep began
pub record SeesPublished (store : Store) (old new : Pass) : Type 0 where
  pub commits : List Commit
  pub front : IsPrefix (state_of old).seen commits
  pub legal : IsLegal store.accounts.config.kind commits
  pub behind : (w : Sweep) → (pin_of old).sweep ≡ Some w → w.clock ≤ length commits
  pub step : OnlyAccount old new (with_pass old.account.me.0 old.number (refreshed (state_of old) commits))

-- ---- a whole sweep

-- The pass has looked at the pin of each pass, since it loaded the clock of its sweep; and it has seen the journal as
-- far as the sweep's horizon.
pub record HasSwept (store : Store) (pass : Pass) (sweep : Sweep) : Type 0 where
  pub is : (pin_of pass).sweep ≡ Some sweep
  pub whole : sweep.looked ≡ store.accounts.config.passes
  pub seen : horizon_of sweep ≤ length (state_of pass).seen

-- ---- what a call leaves of a pass

-- more of the journal was seen, and more words were found
pub record SeesOn (old new : PassState) : Type 0 where
  pub front : IsPrefix old.seen new.seen
  pub is : new ≡ record old { seen = new.seen; looks = new.looks }

-- it is the same pass, which has the same transaction, and knows more; only its sweep may be another
pub record GoesOn (old new : Pass) : Type 0 where
  pub number : new.number ≡ old.number
  pub sees : SeesOn (state_of old) (state_of new)
  pub pin : pin_of new ≡ with_sweep (pin_of old) (pin_of new).sweep
  pub reads : new.account.me.0.reads ≡ old.account.me.0.reads

-- ---- the index in hand

-- it holds the index, of which it knows this, and nothing else
pub record HasIndexOnly (store : Store) (pass : Pass) (st : PassState) (x : PinState) (y : IndexState)
    : Type 0 where
  pub of : IsPassOf store pass
  pub latch : pass.latch.me.1 ≡ (cells_of store.accounts.config, slots.Out) ∷ []
  pub buffers : pass.buffers ≡ MOST_UNPACKED
  pub state : state_of pass ≡ st
  pub pin : pin_of pass ≡ x
  pub index : HasIndex pass.account.me.0 y
  pub alone : without 0 pass.account.me.0.indexes ≡ []
  pub cells : pass.account.me.0.cells ≡ []
  pub journals : pass.account.me.0.journals ≡ []

-- ---- leaves that are freed

-- Retired leaves with a stamp below this one may be freed: those below the least start that the sweep has found, or
-- all where it has found none.
abbrev pub bound_of : Option ℕ → ℕ
bound_of None = STAMPS_END
bound_of (Some least) = least

abbrev pub free_bound : Sweep → ℕ
free_bound sweep = bound_of sweep.least

-- they are free now, and nothing else of the index has changed
abbrev pub leaves_freed : Sweep → IndexState → IndexState
leaves_freed sweep y = record y { index = freed (free_bound sweep) y.index.leaves y.index }
