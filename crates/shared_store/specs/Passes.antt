-- A pass of a shared store between two calls.
use Rattle.std.specs.Prelude.{◌≡◌, ℕ, List, [], Option, IfSome, IfNone}
use Rattle.std.specs.List.{AllByRecursion}
use mathlib.Core.List.{IsPrefix}
use Rattle.graph_model.specs.declared.journal.TxnName.{TxnName}
use Rattle.graph_model.specs.declared.write.Write.{Write}
use Rattle.graph_model.specs.Account.{Account, IsValid}
use Rattle.graph_model.specs.AccountSteps.{view_of}
use Rattle.graph_model.specs.Graph.{Graph}
use Rattle.graph_model.specs.Refused.{IsWithinLimits}
use Rattle.pass_writes.specs.StoreRelation.Passes.{PassState, number_of}
use Rattle.pass_writes.specs.StoreRuleDeclared.store.Store.{Store}
use Rattle.pass_writes.specs.PassSteps.Passes.{IsEndedPass, IsIdlePass, IsOpenPass, account_of_pass, name_of_pass, state_of}
use Rattle.pass_writes.specs.PassSteps.Txns.{HasCommitted}
use Rattle.pass_writes.specs.Ending.{AreLeft}
use Rattle.shared_store.specs.declared.pass.Pass.{Pass}

-- what its seat knows of it
abbrev pub account_of : Store → Pass → Account
account_of store pass = account_of_pass store pass.seats

-- it has no transaction, and no cell in hand
pub record IsIdle (store : Store) (pass : Pass) : Type 0 where
  pub idle : IsIdlePass store pass.seats
  pub cells : pass.cells.taken.list.items ≡ []
  pub begun : pass.begun ≡ number_of (state_of pass.seats)
  pub own : pass.own.items ≡ []
  pub changed : pass.changed.items ≡ []
  pub valid : IsValid (account_of store pass)

-- It has an open one, of which it notes what its seat knows, and no cell in hand.
pub record IsOpen (store : Store) (pass : Pass) : Type 0 where
  pub opened : IsOpenPass store pass.seats
  pub alone : (state_of pass.seats).readers_out ≡ 0
  pub cells : pass.cells.taken.list.items ≡ []
  pub begun : pass.begun ≡ number_of (state_of pass.seats)
  pub start : pass.start ≡ (state_of pass.seats).start
  pub own : pass.own.items ≡ (state_of pass.seats).own
  pub changed : pass.changed.items ≡ (state_of pass.seats).own
  pub valid : IsValid (account_of store pass)

-- what its open transaction sees
abbrev pub view_in : Store → Pass → Graph
view_in store pass = view_of (account_of store pass) pass.start

-- it has the same transaction, and knows of it what it knew
pub record KeepsOpen (store : Store) (old new : Pass) : Type 0 where
  pub opened : IsOpen store new
  pub account : account_of store new ≡ account_of store old
  pub start : new.start ≡ old.start
  pub number : new.seats.number ≡ old.seats.number

-- only room was made in its lists
pub record KeepsAll (old new : Pass) : Type 0 where
  pub seats : new.seats ≡ old.seats
  pub cells : new.cells ≡ old.cells
  pub begun : new.begun ≡ old.begun
  pub start : new.start ≡ old.start
  pub own : new.own.items ≡ old.own.items
  pub changed : new.changed.items ≡ old.changed.items

-- A transaction has ended, with a commit that was answered this stamp if there is one. What the pass has kept of its
-- writes tells which rows are left to stamp.
pub record MayStamp (store : Store) (pass : Pass) (by : TxnName) (stamp : Option ℕ) : Type 0 where
  pub ended : IsEndedPass store pass.seats
  pub cells : pass.cells.taken.list.items ≡ []
  pub name : by ≡ name_of_pass pass.seats
  pub committed : IfSome stamp (λ c. HasCommitted pass.seats.number (state_of pass.seats) c)
  pub left : AreLeft store.accounts.config.kind pass.changed.items (state_of pass.seats).unstamped
  pub none : IfNone stamp ((state_of pass.seats).unstamped ≡ [])
  pub within : AllByRecursion IsWithinLimits pass.changed.items

-- all rows of its commit are stamped, and it may have seen more of the journal and found more words
pub record Settles (old new : PassState) : Type 0 where
  pub front : IsPrefix old.seen new.seen
  pub is : new ≡ record old { unstamped = []; seen = new.seen; looks = new.looks }

-- it has no cell in hand; of its lists one is as it was, and the other is this
pub record KeepsLists (old new : Pass) (changed : List Write) : Type 0 where
  pub cells : new.cells.taken.list.items ≡ []
  pub begun : new.begun ≡ old.begun
  pub own : new.own.items ≡ old.own.items
  pub changed_is : new.changed.items ≡ changed

-- its transaction is the same, with these writes
pub record KeepsTxn (old new : PassState) (ws : List Write) : Type 0 where
  pub stage : new.stage ≡ old.stage
  pub start : new.start ≡ old.start
  pub own : new.own ≡ ws
  pub laid : new.laid ≡ ws
  pub unstamped : new.unstamped ≡ old.unstamped
  pub past : new.past ≡ old.past
  pub seen : IsPrefix old.seen new.seen
  pub readers_out : new.readers_out ≡ old.readers_out
