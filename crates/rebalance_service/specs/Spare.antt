-- Passes that the workers of a store share.
use Rattle.std.specs.Prelude.{◌≡◌, List, map, Option, IfSome}
use Rattle.std.specs.List.{AllByRecursion}
use Rattle.graph_model.specs.Account.{Account}
use Rattle.worker_calls.specs.StoreRuleDeclared.store.Store.{Store}
use Rattle.worker_calls.specs.SharedStoreDeclared.pass.Pass.{Pass}
use Rattle.worker_calls.specs.SharedStore.Passes.{IsIdle, account_of}

-- none has a transaction, and these are their accounts, in their order
pub record AreSpare (store : Store) (accounts : List Account) (passes : List Pass) : Type 0 where
  pub idle : AllByRecursion (IsIdle store) passes
  pub own : map (account_of store) passes ≡ accounts

-- of the store that there is
abbrev pub AreSpareOf : Option Store → List Account → List Pass → Type 0
AreSpareOf home accounts passes = IfSome home (λ store. AreSpare store accounts passes)
