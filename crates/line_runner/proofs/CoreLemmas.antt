-- What an account sees, and one pass of the core of one owner that has changed.
use Rattle.std.proofs.Common.{◌≡◌, ℕ, zero, suc, ◌<◌, List, [], ◌∷◌, length, refl, sym, ◌∙◌, ap, subst, arith}
use Rattle.std.specs.Prelude.{Bool, true, false, not, Option, Some, None, IsSome, unwrap_or, slice_get, slice_set}
use Rattle.graph_model.specs.Graph.{Graph}
use Rattle.graph_model.specs.Account.{Account}
use Rattle.graph_model.specs.AccountSteps.{view_of}
use Rattle.graph_model.specs.OwnerCalls.{PassState, Core, no_pass, current, with_current, ended_pass}
use Rattle.line_runner.specs.Turns.{view_now}

-- something is there
pub some_of : {X : Type 0} (o : Option X) → IsSome o → (x : X) × (o ≡ Some x)
some_of None is = absurd (let no : false ≡ true = is in cc)
some_of (Some x) is = (x, refl)

-- what is said of what an open transaction sees
pub view_is : (P : Graph → Type 0) (account : Account) → IsSome account.start
    → ((start : ℕ) → account.start ≡ Some start → P (view_of account start)) → P (view_now account)
view_is P account open_is by =
    let o = some_of account.start open_is in
    subst P (ap (λ s. view_of account (unwrap_or s 0)) (sym o.1)) (by o.0 o.1)

-- ---- one pass has changed

-- a list with what it has
pub put_back : (xs : List PassState) (i : ℕ) → i < length xs → slice_set xs i (unwrap_or (slice_get xs i) no_pass) ≡ xs
put_back [] i lt = absurd (omega arith)
put_back (x ∷ xs) zero lt = refl
put_back (x ∷ xs) (suc i) lt = ap (λ zs. x ∷ zs) (put_back xs i (omega arith))

-- what is set is there
pub get_set : {X : Type 0} (xs : List X) (i : ℕ) (x other : X) → i < length xs → unwrap_or (slice_get (slice_set xs i x) i) other ≡ x
get_set [] i x other lt = absurd (omega arith)
get_set (y ∷ xs) zero x other lt = refl
get_set (y ∷ xs) (suc i) x other lt = get_set xs i x other (omega arith)

-- what is set twice is set once
pub set_twice : {X : Type 0} (xs : List X) (i : ℕ) (x y : X) → slice_set (slice_set xs i x) i y ≡ slice_set xs i y
set_twice [] i x y = refl
set_twice (z ∷ xs) zero x y = refl
set_twice (z ∷ xs) (suc i) x y = ap (λ zs. z ∷ zs) (set_twice xs i x y)

-- a transaction is taken back, on a pass that has just changed
pub ended_of : (core : Core) → core.selected < length core.passes → (state : PassState)
    → with_current (with_current core state) (ended_pass (with_current core state)) ≡ with_current core (record state { start = None; own = [] })
ended_of core inside state =
    let here : current (with_current core state) ≡ state = get_set core.passes core.selected state no_pass inside in
    (λ i. record core { passes = slice_set (slice_set core.passes core.selected state) core.selected (record (here i) { start = None; own = [] }) })
    ∙ (λ i. record core { passes = set_twice core.passes core.selected state (record state { start = None; own = [] }) i })

-- what isn't not so is so
pub not_false : (b : Bool) → not b ≡ false → b ≡ true
not_false true e = refl
not_false false e = cc

-- what is not so isn't so
pub not_true : (b : Bool) → not b ≡ true → b ≡ false
not_true true e = cc
not_true false e = refl
