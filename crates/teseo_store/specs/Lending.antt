-- Passes that are lent as sessions, and what is done with them.
use Rattle.std.specs.Prelude.{◌≡◌, ℕ, List, [], ◌∷◌, ◌++◌, Option, Some, None, slice_get}
use mathlib.Core.List.{IsPrefix}
use Rattle.graph_model.specs.declared.journal.Commit.{Commit}
use Rattle.graph_model.specs.Account.{Account}
use Rattle.rebalance_service.specs.StoreRuleDeclared.store.Store.{Store}
use Rattle.rebalance_service.specs.SharedStoreDeclared.pass.Pass.{Pass}
use Rattle.rebalance_service.specs.SharedStore.Passes.{IsIdle, account_of}

-- none has a transaction, and they stand in the order of their numbers, from 0
pub record AreInOrder (store : Store) (list : List Pass) : Type 0 where
  pub idle : (p : ℕ) (pass : Pass) → slice_get list p ≡ Some pass → IsIdle store pass
  pub numbers : (p : ℕ) (pass : Pass) → slice_get list p ≡ Some pass → pass.seats.number ≡ p

-- a pass lies there, without a transaction
abbrev pub HoldsIdle : Store → Option Pass → Type 0
HoldsIdle store None = ⊥
HoldsIdle store (Some pass) = IsIdle store pass

-- ---- what works do

-- what doing a work does: from its own state, and the account of its session before, to both after
abbrev pub Doing : Type 0 → Type 1
Doing W = W → Account → W → Account → Type 0

-- a work was done with the session of a pass, which has come back with its number and without a transaction
pub record IsLentBack {W : Type 0} (did : Doing W) (store : Store) (old new : W) (pass back : Pass) : Type 0 where
  pub idle : IsIdle store back
  pub number : back.seats.number ≡ pass.seats.number
  pub done : did old (account_of store pass) new (account_of store back)

-- the same, of a pass that lies in a slot before and after
abbrev pub IsDoneInSlot : {W : Type 0} → Doing W → Store → W → W → Option Pass → Option Pass → Type 0
IsDoneInSlot did store old new (Some pass) (Some back) = IsLentBack did store old new pass back
IsDoneInSlot did store old new (Some pass) None = ⊥
IsDoneInSlot did store old new None after = ⊥

-- a work was done with the session of the last pass, and the others are as `Rest` says
pub record IsDoneByLast {W : Type 0} (did : Doing W) (store : Store) (old new : W)
    (Rest : List Pass → List Pass → Type 0) (passes after : List Pass) : Type 0 where
  pub rest : List Pass
  pub rest_after : List Pass
  pub pass : Pass
  pub back : Pass
  pub was : passes ≡ rest ++ pass ∷ []
  pub is : after ≡ rest_after ++ back ∷ []
  pub done : did old (account_of store pass) new (account_of store back)
  pub others : Rest rest rest_after

-- Each work was done with the session of a pass: the first with that of the last pass, and the others with those before
-- it. The sessions that had no work are as they were.
abbrev pub AreDone : {W : Type 0} → Doing W → Store → List W → List W → List Pass → List Pass → Type 0
AreDone did store [] [] passes after = after ≡ passes
AreDone did store [] (y ∷ ys) passes after = ⊥
AreDone did store (x ∷ xs) [] passes after = ⊥
AreDone did store (x ∷ xs) (y ∷ ys) passes after =
    IsDoneByLast did store x y (AreDone did store xs ys) passes after

-- what each session has seen is a front of the journal
abbrev pub HaveSeenFronts : Store → List Pass → List Commit → Type 0
HaveSeenFronts store passes journal =
    (p : ℕ) (pass : Pass) → slice_get passes p ≡ Some pass → IsPrefix (account_of store pass).seen journal
