-- Passes that readers were made of, and that came back.
use Rattle.std.specs.Prelude.{◌≡◌, List, map}
use Rattle.std.specs.List.{AllByRecursion}
use Rattle.reader_parts.specs.SharedStore.Passes.{IsIdle, account_of}
use Rattle.reader_parts.specs.SharedStoreDeclared.pass.Pass.{Pass}
use Rattle.reader_parts.specs.StoreRuleDeclared.store.Store.{Store}

-- each is without a transaction, and as it was
pub record StayIdle (store : Store) (old new : List Pass) : Type 0 where
  pub idle : AllByRecursion (IsIdle store) new
  pub accounts : map (account_of store) new ≡ map (account_of store) old
