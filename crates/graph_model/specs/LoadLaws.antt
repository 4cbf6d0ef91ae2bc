-- Laws of a load. Each is the contract of a function in `owner`.
use Rattle.std.specs.Prelude.{ℕ, ◌<◌, List, length}
use Rattle.graph_model.specs.declared.write.Write.{Write}
use Rattle.graph_model.specs.Legal.{IsLegal}
use Rattle.graph_model.specs.Account.{IsValid}
use Rattle.graph_model.specs.OwnerCalls.{Core, account_at}
use Rattle.graph_model.specs.Loading.{IsNew, IsLoad, loaded}

-- what is loaded makes a legal journal
abbrev pub LoadIsLegal : Type 0
LoadIsLegal = (core : Core) (load : List Write) → IsNew core → IsLoad core load
    → IsLegal core.kind (loaded core load).journal

-- and behind it the account of each pass is valid
abbrev pub LoadIsValid : Type 0
LoadIsValid = (core : Core) (load : List Write) (p : ℕ) → IsNew core → IsLoad core load → p < length core.passes
    → IsValid (account_at (loaded core load) p)
