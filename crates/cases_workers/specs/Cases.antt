-- What a case leaves of the account of its engine.
use Rattle.std.specs.Prelude.{◌≡◌, None}
use Rattle.graph_model.specs.Account.{Account}

-- it has no transaction, and is still of the same pass
pub record StaysClosed (old new : Account) : Type 0 where
  pub closed : new.start ≡ None
  pub job : new.job ≡ old.job
