-- What is kept of a session's account is known in one way alone, so it may be kept beside the engine.
use Rattle.std.proofs.Common.{◌≡◌, ℕ, List, [], ◌∷◌, ◌++◌, refl, sym, ◌∙◌, ap}
use Rattle.std.proofs.Props.{props}
use Rattle.std.specs.Coded.{Coded-set, Unit-prop}
use mathlib.Core.HLevel.{Σ_prop_path}
use mathlib.Core.List.{is_set as List-set}
use mathlib.Core.Logic.{∥∥₁_elim}
use Rattle.graph_model.specs.declared.journal.Commit.{Commit}
use Rattle.graph_model.specs.declared.refusal.Refusal.{Refusal}
use Rattle.graph_model.specs.declared.write.Kind.{Kind}
use Rattle.graph_model.specs.declared.write.Write.{Write}
use Rattle.graph_model.specs.declared.write.Write.TheVariants.{AddVertex, DropVertex, AddEdge, SetEdge, DropEdge}
use Rattle.graph_model.specs.contracts.refusal.Refusal as refusal
use Rattle.graph_model.specs.contracts.write.Write as write
use Rattle.graph_model.specs.Account.{Account, IsOpenTxn, IsValid}
use Rattle.graph_model.specs.Graph.{Graph, apply}
use Rattle.graph_model.specs.Legal.{IsLegal}
use Rattle.graph_model.specs.Refused.{AllAllowed, IsWithinLimits}
use Rattle.sessions.specs.Sessions.{HasNone, HasOpen}

refusal_set : IsSet Refusal
refusal_set = Coded-set refusal.the_row.coded

write_set : IsSet Write
write_set = Coded-set write.the_row.coded

-- ---- writes that are allowed

within_prop : (w : Write) → IsProp (IsWithinLimits w)
within_prop (AddVertex v) = hlevel props
within_prop (DropVertex v) = hlevel props
within_prop (AddEdge u v weight) = hlevel props
within_prop (SetEdge u v weight) = hlevel props
within_prop (DropEdge u v) = hlevel props

allowed_prop : (kind : Kind) (g : Graph) (ws : List Write) → IsProp (AllAllowed kind g ws)
allowed_prop kind g [] = Unit-prop
allowed_prop kind g (w ∷ ws) = hlevel (props, refusal_set, allowed_prop kind (apply kind g w) ws)

legal_prop : (kind : Kind) (journal : List Commit) → IsProp (IsLegal kind journal)
legal_prop kind journal = hlevel (props, within_prop, allowed_prop)

-- ---- an account

-- all but the last
but_last : List (List Write) → List (List Write)
but_last [] = []
but_last (x ∷ []) = []
but_last (x ∷ y ∷ ys) = x ∷ but_last (y ∷ ys)

but_last_of : (xs : List (List Write)) (x : List Write) → but_last (xs ++ x ∷ []) ≡ xs
unfolding but_last
but_last_of [] x = refl
but_last_of (y ∷ []) x = refl
but_last_of (y ∷ z ∷ zs) x = ap (λ ws. y ∷ ws) (but_last_of (z ∷ zs) x)

last_prop : (made : List (List Write)) (own : List Write)
    → IsProp ((earlier : List (List Write)) × (made ≡ earlier ++ own ∷ []))
last_prop made own one other =
    Σ_prop_path (λ earlier. List-set (List-set write_set) made (earlier ++ own ∷ [])) {u = one} {v = other}
    (sym (but_last_of one.0 own) ∙ ap but_last (sym one.1 ∙ other.1) ∙ but_last_of other.0 own)

open_txn_prop : (account : Account) (start : ℕ) → IsProp (IsOpenTxn account start)
open_txn_prop account start = hlevel (props, within_prop, allowed_prop, last_prop)

valid_prop : (account : Account) → IsProp (IsValid account)
valid_prop account = hlevel (props, legal_prop, open_txn_prop, write_set)

-- ---- what is kept

pub has_none : (number : ℕ) (account : Account) → ∥ HasNone number account ∥₁ → HasNone number account
has_none number account kept = ∥∥₁_elim kept (hlevel (props, valid_prop)) (λ h. h)

pub has_open : (number start : ℕ) (account : Account) → ∥ HasOpen number start account ∥₁ → HasOpen number start account
has_open number start account kept = ∥∥₁_elim kept (hlevel (props, valid_prop)) (λ h. h)
