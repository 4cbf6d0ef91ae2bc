-- What a first payment leaves in the journal.
use Rattle.std.specs.Prelude.{◌≡◌, ℕ, ◌+◌, List, [], ◌∷◌, slice_get, Some}
use Rattle.graph_model.specs.declared.journal.Commit.{Commit}
use Rattle.graph_model.specs.declared.write.Write.{Write}
use Rattle.graph_model.specs.declared.write.Write.TheVariants.{AddVertex, AddEdge}

-- the accounts 1 and 2 are opened, and the first pays the second one 250
abbrev pub first_payment : List Write
first_payment = AddVertex 1 ∷ AddVertex 2 ∷ AddEdge 1 2 250 ∷ []

-- the journal has a first payment at this stamp
pub record HasPaid (journal : List Commit) (stamp : ℕ) : Type 0 where
  pub place : ℕ
  pub commit : Commit
  pub stamped : stamp ≡ place + 1
  pub at : slice_get journal place ≡ Some commit
  pub writes : commit.writes ≡ first_payment

-- three accounts, the first of which has paid both others
abbrev pub three_accounts : List Write
three_accounts = AddVertex 1 ∷ AddVertex 2 ∷ AddVertex 3 ∷ AddEdge 1 2 250 ∷ AddEdge 1 3 100 ∷ []
