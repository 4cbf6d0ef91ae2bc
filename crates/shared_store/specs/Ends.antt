-- The passes of a new store, and what a closed one shows.
use Rattle.std.specs.Prelude.{◌≡◌, ℕ, ◌≤◌, List, [], length, map, slice_get, Some, vec_capacity}
use Rattle.std.specs.List.{AllByRecursion}
use Rattle.graph_model.specs.declared.journal.Commit.{Commit}
use Rattle.graph_model.specs.declared.row.Key.{Key}
use Rattle.txn_manager.specs.declared.config.Config.{Config}
use Rattle.store_model.specs.Stamped.{StampedVersions}
use Rattle.pass_writes.specs.StoreRelation.Ends.{IsClosed}
use Rattle.pass_writes.specs.StoreRelation.Passes.{PassState, fresh_pass}
use Rattle.pass_writes.specs.StoreRuleDeclared.store.Pass.{Pass as Seats}
use Rattle.pass_writes.specs.StoreRuleDeclared.store.Passes.{Passes as Ends}
use Rattle.pass_writes.specs.StoreRuleDeclared.store.Store.{Store}
use Rattle.pass_writes.specs.StoreRule.Passes.{AreIn}
use Rattle.pass_writes.specs.PassSteps.Passes.{state_of}
use Rattle.shared_store.specs.declared.pass.Pass.{Pass}
use Rattle.shared_store.specs.Passes.{IsIdle}

-- ---- passes

abbrev pub seats_of : List Pass → List Seats
seats_of list = map (λ pass. pass.seats) list

abbrev pub HaveNoCells : List Pass → Type 0
HaveNoCells list = AllByRecursion (λ pass. pass.cells.taken.list.items ≡ []) list

-- it has begun so many transactions, and keeps no write
abbrev pub HasBegun : ℕ → Pass → Type 0
HasBegun count pass = (pass.begun ≡ count) × (pass.own.items ≡ []) × (pass.changed.items ≡ [])

abbrev pub HasBegunNothing : Pass → Type 0
HasBegunNothing pass = HasBegun 0 pass

abbrev pub HaveBegunNothing : List Pass → Type 0
HaveBegunNothing list = AllByRecursion HasBegunNothing list

-- none has a transaction, and all are there, in the order of their numbers
pub record AreIdle (store : Store) (list : List Pass) : Type 0 where
  pub count : length list ≡ store.accounts.config.passes
  pub idle : (p : ℕ) (pass : Pass) → slice_get list p ≡ Some pass → IsIdle store pass
  pub numbers : (p : ℕ) (pass : Pass) → slice_get list p ≡ Some pass → pass.seats.number ≡ p

-- and none has begun one
pub record AreNew (store : Store) (list : List Pass) : Type 0 where
  pub idle : AreIdle store list
  pub fresh : (p : ℕ) (pass : Pass) → slice_get list p ≡ Some pass → state_of pass.seats ≡ fresh_pass

-- ---- what the end needs

-- the seats are of the store's tables, and all lists are empty and have their room
pub record AreEnds (store : Store) (ends : Ends) : Type 0 where
  pub ends_in : AreIn store ends
  pub none : ends.list.items ≡ []
  pub room : store.accounts.config.passes ≤ vec_capacity ends.list

-- ---- what comes out

-- the journal of a closed store, whose passes were these
pub record HasClosed (z : Config) (list : List Pass) (journal : List Commit) : Type 0 where
  pub pass : ℕ → PassState
  pub known : (p : ℕ) (x : Pass) → slice_get list p ≡ Some x → pass p ≡ state_of x.seats
  pub rows : Key → StampedVersions
  pub closed : IsClosed z pass journal rows
