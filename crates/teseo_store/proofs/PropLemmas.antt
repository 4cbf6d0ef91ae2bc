-- What is kept of a store's passes is known in one way alone, so it may be kept beside the store.
use Rattle.std.proofs.Common.{◌≡◌, List, [], ◌∷◌, refl, sym, ◌∙◌, ap, subst}
use Rattle.std.proofs.Props.{props}
use Rattle.std.specs.Coded.{Coded-set, Unit-prop}
use mathlib.Core.Logic.{∥∥₁_elim}
use mathlib.Core.Path.{path_j}
use Rattle.atomic_table.specs.Seated.{TableId, table_id_coded}
use Rattle.rebalance_service.specs.SharedStore.Ends.{AreEnds, AreIdle}
use Rattle.rebalance_service.specs.StoreRuleDeclared.store.Passes.{Passes as Ends}
use Rattle.rebalance_service.specs.StoreRuleDeclared.store.Store.{Store}
use Rattle.rebalance_service.specs.SharedStoreDeclared.pass.Pass.{Pass}
use Rattle.rebalance_service.proofs.WorkerCalls.PropLemmas.{idle_prop}

table_set : IsSet TableId
table_set = Coded-set table_id_coded

-- a list is empty in one way, whatever it is of
module _ {A : Type 0} where
  Empty : List A → Type 0
  Empty [] = Unit {0}
  Empty (x ∷ xs) = ⊥

  empty_prop : (xs : List A) → IsProp (Empty xs)
  unfolding Empty
  empty_prop [] = Unit-prop
  empty_prop (x ∷ xs) = λ p q. absurd p

  encode : (xs : List A) → ◌≡◌ {A = List A} [] xs → Empty xs
  unfolding Empty
  encode xs p = subst Empty p tt

  decode : (xs : List A) → Empty xs → ◌≡◌ {A = List A} [] xs
  unfolding Empty
  decode [] e = refl
  decode (x ∷ xs) e = absurd e

  back : (xs : List A) (p : ◌≡◌ {A = List A} [] xs) → decode xs (encode xs p) ≡ p
  unfolding decode
  back xs p = path_j (λ (ys : List A) (q : ◌≡◌ {A = List A} [] ys). decode ys (encode ys q) ≡ q) refl p

  from_nil : (xs : List A) → IsProp (◌≡◌ {A = List A} [] xs)
  from_nil xs p q =
      sym (back xs p) ∙ ap (decode xs) (empty_prop xs (encode xs p) (encode xs q)) ∙ back xs q

  nil_prop : (xs : List A) → IsProp (◌≡◌ {A = List A} xs [])
  nil_prop [] = from_nil []
  nil_prop (x ∷ xs) = λ p q. absurd (clash p)
    where
      clash : ◌≡◌ {A = List A} (x ∷ xs) [] → ⊥
      clash e = cc

pub are_idle : (store : Store) (list : List Pass) → ∥ AreIdle store list ∥₁ → AreIdle store list
are_idle store list kept = ∥∥₁_elim kept (hlevel (props, idle_prop)) (λ h. h)

pub are_ends : (store : Store) (ends : Ends) → ∥ AreEnds store ends ∥₁ → AreEnds store ends
are_ends store ends kept = ∥∥₁_elim kept (hlevel (props, table_set, nil_prop)) (λ h. h)
