-- What is true of a session's account at any time.
use Rattle.std.specs.Prelude.{◌≡◌, ℕ, Some, None}
use Rattle.graph_model.specs.Account.{Account, IsValid}

-- it is the account of the session with this number, which has no open transaction
pub record HasNone (number : ℕ) (account : Account) : Type 0 where
  pub valid : IsValid account
  pub none : account.start ≡ None
  pub numbered : account.job ≡ number

-- it is the account of the session with this number, with an open transaction that began so
pub record HasOpen (number start : ℕ) (account : Account) : Type 0 where
  pub valid : IsValid account
  pub opened : account.start ≡ Some start
  pub numbered : account.job ≡ number
