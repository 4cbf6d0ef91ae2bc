-- A pass between two calls of its worker.
use Rattle.std.specs.Prelude.{◌≡◌, ◌⊎◌}
use Rattle.graph_model.specs.Account.{Account}
use Rattle.graph_model.specs.Legal.{IsLegal}
use Rattle.reader_parts.specs.StoreRuleDeclared.store.Store.{Store}
use Rattle.reader_parts.specs.SharedStoreDeclared.pass.Pass.{Pass}
use Rattle.reader_parts.specs.SharedStore.Passes.{IsIdle, IsOpen}

-- it has no transaction, or an open one; and it holds no cell either way
abbrev pub IsReady : Store → Pass → Type 0
IsReady store pass = IsIdle store pass ⊎ IsOpen store pass

-- the journal that was seen is legal
abbrev pub HasSeenLegal : Account → Type 0
HasSeenLegal account = IsLegal account.kind account.seen

-- what it keeps beside its seats is as it was, but for hints
pub record KeepsRest (old new : Pass) : Type 0 where
  pub number : new.seats.number ≡ old.seats.number
  pub cells : new.cells.taken.list.items ≡ old.cells.taken.list.items
  pub begun : new.begun ≡ old.begun
  pub start : new.start ≡ old.start
  pub own : new.own.items ≡ old.own.items
  pub changed : new.changed.items ≡ old.changed.items
