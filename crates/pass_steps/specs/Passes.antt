-- A pass of a store: what it knows of itself, and in which state it is between calls.
use Rattle.std.specs.Prelude.{◌≡◌, ◌≢◌, ℕ, ◌<◌, ◌≤◌, false, [], length, None, unwrap_or}
use Rattle.graph_model.specs.declared.journal.TxnName.{TxnName}
use Rattle.graph_model.specs.Account.{Account}
use Rattle.graph_model.specs.Legal.{IsLegal}
use Rattle.latch_table.specs.Latched.{number_of}
use Rattle.latch_table.specs.Latched.{IsPassOf as IsLatchPass}
use Rattle.seat_views.specs.Keeping.{kept_at}
use Rattle.store_rule.specs.StoreRelationDeclared.stage.Stage.TheVariants.{Idle, Open}
use Rattle.store_rule.specs.StoreRelation.Passes.{PassState, account_of, fresh_pass, name_at}
use Rattle.store_rule.specs.StoreRelation.Readers.{ReaderState, reader_of}
use Rattle.store_rule.specs.StoreRelation.Shared.{JournalState, no_journal}
use Rattle.store_rule.specs.RuleModel.Sight.{HasPass, HasPin, PinState, Sight, fresh_pin}
use Rattle.store_rule.specs.declared.buffers.TheConstants.{MOST_UNPACKED}
use Rattle.store_rule.specs.declared.store.Pass.{Pass}
use Rattle.store_rule.specs.declared.store.Store.{Store}

-- ---- what a view has

abbrev pub state_in : Sight → ℕ → PassState
state_in v p = unwrap_or (kept_at v.passes p) fresh_pass

abbrev pub pin_in : Sight → ℕ → PinState
pin_in v p = unwrap_or (kept_at v.pins p) fresh_pin

abbrev pub journal_in : Sight → JournalState
journal_in v = unwrap_or (kept_at v.journals 0) no_journal

-- ---- what a pass knows of itself

abbrev pub state_of : Pass → PassState
state_of pass = state_in pass.account.me.0 pass.number

abbrev pub pin_of : Pass → PinState
pin_of pass = pin_in pass.account.me.0 pass.number

-- its account
abbrev pub account_of_pass : Store → Pass → Account
account_of_pass store pass = account_of store.accounts.config pass.number (state_of pass)

-- the name of its latest transaction
abbrev pub name_of_pass : Pass → TxnName
name_of_pass pass = name_at pass.number (state_of pass)

-- what a reader would have of it that is split off now
abbrev pub reader_of_pass : Pass → ReaderState
reader_of_pass pass = reader_of (λ _. state_of pass) pass.number

-- ---- a pass of a store

-- a view that has this pass with its pin, and no other pass; it was told nothing, and has no reader
pub record IsOwnSight (p : ℕ) (v : Sight) : Type 0 where
  pub has : HasPass v p (state_in v p)
  pub pin : HasPin v p (pin_in v p)
  pub only : (q : ℕ) → q ≢ p → kept_at v.passes q ≡ None
  pub told : v.told ≡ []
  pub readers : v.readers ≡ []

-- its seats are of the store's tables, and know it alone; it may hold cells
pub record IsPassOf (store : Store) (pass : Pass) : Type 0 where
  pub inside : pass.number < store.accounts.config.passes
  pub latch : IsLatchPass store.latches.table.shared.key.config.passes
      store.latches.table.shared.key store.latches.table.shared.table_id pass.latch
  pub same : number_of pass.latch.me.0 ≡ pass.number
  pub table : pass.account.table_id ≡ store.accounts.table.shared.table_id
  pub slots : pass.account.me.1 ≡ []
  pub sight : IsOwnSight pass.number pass.account.me.0
  -- as much of the journal as was seen is legal
  pub legal : IsLegal store.accounts.config.kind (state_of pass).seen

-- the view has no cell, nor the index or the journal
pub record HasNoContents (v : Sight) : Type 0 where
  pub cells : v.cells ≡ []
  pub indexes : v.indexes ≡ []
  pub journals : v.journals ≡ []

-- the pass holds no cell, nor the index or the journal; so it has room for the rows of all cells that it may unpack
pub record HoldsNone (pass : Pass) : Type 0 where
  pub latches : pass.latch.me.1 ≡ []
  pub buffers : pass.buffers ≡ MOST_UNPACKED
  pub contents : HasNoContents pass.account.me.0

-- ---- its transaction

-- the latest transaction has ended, and no reader is out
pub record HasEnded (st : PassState) : Type 0 where
  pub stage : st.stage ≡ Idle
  pub own : st.own ≡ []
  pub laid : st.laid ≡ []
  pub alone : st.readers_out ≡ 0

-- its rows are stamped as well, and the pass holds nothing back
pub record HasNoTxn (st : PassState) (x : PinState) : Type 0 where
  pub ended : HasEnded st
  pub stamped : st.unstamped ≡ []
  pub unannounced : x.announced ≡ false
  pub unnoted : x.noted ≡ []

-- a transaction is open, all of whose writes stand in rows, and it is pinned
pub record HasOpenTxn (st : PassState) (x : PinState) : Type 0 where
  pub stage : st.stage ≡ Open
  pub laid : st.laid ≡ st.own
  pub started : st.start ≤ length st.seen
  pub stamped : st.unstamped ≡ []
  pub pinned : x.announced ≡ false

-- ---- a pass between calls

-- it has no transaction
pub record IsIdlePass (store : Store) (pass : Pass) : Type 0 where
  pub of : IsPassOf store pass
  pub none : HoldsNone pass
  pub idle : HasNoTxn (state_of pass) (pin_of pass)

-- it has an open one
pub record IsOpenPass (store : Store) (pass : Pass) : Type 0 where
  pub of : IsPassOf store pass
  pub none : HoldsNone pass
  pub opened : HasOpenTxn (state_of pass) (pin_of pass)

-- its transaction has ended; rows may still have to be stamped, and it may still be pinned
pub record IsEndedPass (store : Store) (pass : Pass) : Type 0 where
  pub of : IsPassOf store pass
  pub none : HoldsNone pass
  pub ended : HasEnded (state_of pass)

-- the number and the reads under way are as they were
pub record IsSamePass (old new : Pass) : Type 0 where
  pub number : new.number ≡ old.number
  pub reads : new.account.me.0.reads ≡ old.account.me.0.reads
