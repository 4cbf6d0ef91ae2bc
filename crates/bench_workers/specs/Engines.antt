-- Engines of a round.
use Rattle.std.specs.Prelude.{◌≡◌, ℕ, List, None, map}
use Rattle.std.specs.List.{AllByRecursion}
use Rattle.graph_model.specs.Account.{Account}

-- none has a transaction
abbrev pub AreClosed : {E : Type 0} → (E → Account) → List E → Type 0
AreClosed account list = AllByRecursion (λ e. (account e).start ≡ None) list

-- of which pass each is
abbrev pub jobs_of : {E : Type 0} → (E → Account) → List E → List ℕ
jobs_of account list = map (λ e. (account e).job) list
