-- Readers of a pass of a shared store, and passes that have readers out.
use Rattle.std.specs.Prelude.{◌≡◌, ℕ, ◌+◌, ◌-◌, false, List, [], None}
use Rattle.graph_model.specs.declared.row.Key.{Key}
use Rattle.graph_model.specs.Account.{Account, IsValid}
use Rattle.graph_model.specs.Graph.{Graph}
use Rattle.graph_model.specs.Rows.{end_key, is_below, value_at}
use Rattle.optimistic_read.specs.PassSteps.Passes.{IsOpenPass, state_of}
use Rattle.optimistic_read.specs.StoreRelation.Passes.{number_of}
use Rattle.optimistic_read.specs.StoreRuleDeclared.store.Store.{Store}
use Rattle.pass_readers.specs.Hand.{HasNothing}
use Rattle.pass_readers.specs.Readers.{IsSnapshotOf, read_by, seen_by}
use Rattle.shared_store.specs.declared.pass.Pass.{Pass}
use Rattle.shared_store.specs.Passes.{account_of, view_in}
use Rattle.shared_readers.specs.declared.reader.SnapshotReader.{SnapshotReader}

-- no key from the last one on has a value
abbrev pub EndsWithKeys : Graph → Type 0
EndsWithKeys g = (q : Key) → is_below q end_key ≡ false → value_at g q ≡ None

-- ---- passes

-- how many readers of the pass are out
abbrev pub out_of : Pass → ℕ
out_of pass = (state_of pass.seats).readers_out

-- It has an open transaction, of which it notes what its seat knows, and no cell in hand. Where no reader is out this is
-- what any call asks of it.
pub record IsLending (store : Store) (pass : Pass) : Type 0 where
  pub opened : IsOpenPass store pass.seats
  pub cells : pass.cells.taken.list.items ≡ []
  pub begun : pass.begun ≡ number_of (state_of pass.seats)
  pub start : pass.start ≡ (state_of pass.seats).start
  pub own : pass.own.items ≡ (state_of pass.seats).own
  pub changed : pass.changed.items ≡ (state_of pass.seats).own
  pub valid : IsValid (account_of store pass)
  pub ends : EndsWithKeys (view_in store pass)

-- it has the same transaction, and knows of it what it knew
pub record KeepsLending (store : Store) (old new : Pass) : Type 0 where
  pub lending : IsLending store new
  pub account : account_of store new ≡ account_of store old
  pub start : new.start ≡ old.start
  pub number : new.seats.number ≡ old.seats.number

-- with one reader more, or less
pub record Lends (store : Store) (old new : Pass) : Type 0 where
  pub kept : KeepsLending store old new
  pub out : out_of new ≡ out_of old + 1

pub record TakesBack (store : Store) (old new : Pass) : Type 0 where
  pub kept : KeepsLending store old new
  pub out : out_of new ≡ out_of old - 1

-- ---- readers

-- what it sees, and whose account it reads by
abbrev pub seen_in : Store → SnapshotReader → Graph
seen_in store reader = seen_by store.accounts.config (read_by reader.pass.seats)

abbrev pub job_of : SnapshotReader → ℕ
job_of reader = (read_by reader.pass.seats).by.job

-- what the seat of its own pass knows of that pass
abbrev pub own_account : Store → SnapshotReader → Account
own_account store reader = account_of store reader.pass

-- it has no cell in hand, and its own pass no transaction
pub record IsReader (store : Store) (reader : SnapshotReader) : Type 0 where
  pub nothing : HasNothing store reader.pass.seats reader.pass.cells.taken.list.items
  pub snapshot : IsSnapshotOf (read_by reader.pass.seats) reader.snapshot
  pub ends : EndsWithKeys (seen_in store reader)
  pub begun : reader.pass.begun ≡ number_of (state_of reader.pass.seats)
  pub own : reader.pass.own.items ≡ []
  pub changed : reader.pass.changed.items ≡ []
  pub valid : IsValid (own_account store reader)

-- it reads by the same account, and its own pass is as it was
pub record KeepsReading (store : Store) (old new : SnapshotReader) : Type 0 where
  pub reader : IsReader store new
  pub reads : read_by new.pass.seats ≡ read_by old.pass.seats
  pub account : own_account store new ≡ own_account store old
