-- What an engine knows for one pass: the journal as far as the pass has seen it, and its own transactions.
use Rattle.std.specs.Prelude.{◌≡◌, ℕ, ◌≤◌, Bool, List, [], ◌∷◌, ◌++◌, length, Option, IfSome, IfNone}
use Rattle.std.specs.List.{AllByRecursion}
use Rattle.graph_model.specs.declared.write.Kind.{Kind}
use Rattle.graph_model.specs.declared.write.Write.{Write}
use Rattle.graph_model.specs.declared.journal.TxnName.{TxnName}
use Rattle.graph_model.specs.declared.journal.Commit.{Commit}
use Rattle.graph_model.specs.Legal.{IsLegal}
use Rattle.graph_model.specs.Refused.{AllAllowed, IsWithinLimits}
use Rattle.graph_model.specs.History.{graph_at}

-- a write that was refused since another transaction was open, and the start of the one that was refused
pub record Sighting : Type 0 where
  pub by : TxnName
  pub write : Write
  pub start : ℕ

pub record Account : Type 0 where
  -- the pass's number, the `job` of its transactions' names
  pub job : ℕ
  pub kind : Kind
  -- the number of leaves that the store was made with
  pub leaves : ℕ
  -- the journal, as far as it was seen
  pub seen : List Commit
  -- the writes of each transaction of the pass, by its number
  pub made : List (List Write)
  pub sighted : List Sighting
  -- the start of the open transaction, and its writes so far
  pub start : Option ℕ
  pub own : List Write
  -- some write of the pass was answered `Full`
  pub filled : Bool
  -- how many transactions the pass has begun, and how many it may begin
  pub begun : ℕ
  pub allowed : ℕ
  -- the stamps that its commits were answered
  pub stamps : List ℕ

-- an open transaction began within what was seen, its snapshot refused none of its writes, and they
-- stand last in what the pass has made
pub record IsOpenTxn (account : Account) (start : ℕ) : Type 0 where
  pub seen : start ≤ length account.seen
  pub allowed : AllAllowed account.kind (graph_at account.kind account.seen start) account.own
  pub within : AllByRecursion IsWithinLimits account.own
  pub last : (earlier : List (List Write)) × (account.made ≡ earlier ++ account.own ∷ [])

pub record IsValid (account : Account) : Type 0 where
  pub legal : IsLegal account.kind account.seen
  pub current : IfSome account.start (IsOpenTxn account)
  -- there are no writes of its own where no transaction is open
  pub idle : IfNone account.start (account.own ≡ [])
  -- one list of writes for each transaction that was begun, of which there are no more than allowed
  pub counted : length account.made ≡ account.begun
  pub room : account.begun ≤ account.allowed
