-- Prefixes, facts on each item of a list, and sums over passes.
use Rattle.std.proofs.Common.{◌≡◌, ℕ, zero, suc, ◌+◌, ◌*◌, ◌<◌, ◌≤◌, List, [], ◌∷◌, ◌++◌, length, map, refl, sym, ◌∙◌, ap, subst, arith, cond, length-append, append_assoc, suc-mul}
use Rattle.std.specs.Prelude.{Bool, true, false, ◌==◌, slice_get, Some}
use Rattle.std.specs.List.{AllByRecursion, filter}
use Rattle.std.proofs.lemmas.Bool.{or_left, or_right, false_from_ne_true}
use Rattle.std.proofs.lemmas.List.{append-nil}
use mathlib.Core.List.{IsPrefix}
use mathlib.Core.Logic.{dite}
use native.Mathlib.Decide.{ℕ_discrete}
use Rattle.graph_model.specs.Transactions.{has_name}
use Rattle.graph_model.proofs.TestLemmas.{self_eq, eq_of, name_self}
use Rattle.graph_model.proofs.LegalLemmas.{get_front}
use Rattle.store_model.specs.Stamped.{Stamped, forget}
use Rattle.graph_model.specs.Passes.{revised}
use Rattle.store_relation.specs.Shared.{sum_below}

-- ---- prefixes

pub prefix_all : {X : Type 0} (xs : List X) → IsPrefix xs xs
prefix_all xs = ([], append-nil xs)

pub prefix_trans : {X : Type 0} (xs ys zs : List X) → IsPrefix xs ys → IsPrefix ys zs → IsPrefix xs zs
prefix_trans xs ys zs a b = (a.0 ++ b.0, sym (append_assoc xs a.0 b.0) ∙ ap (λ l. l ++ b.0) a.1 ∙ b.1)

pub prefix_length : {X : Type 0} (xs ys : List X) → IsPrefix xs ys → length xs ≤ length ys
prefix_length xs ys a = let e : length xs + length a.0 ≡ length ys = sym (length-append xs a.0)
    ∙ ap length a.1 in omega arith

pub prefix_get : {X : Type 0} (xs ys : List X) → IsPrefix xs ys → (i : ℕ) (x : X) → slice_get xs i ≡ Some x
    → slice_get ys i ≡ Some x
prefix_get xs ys a i x e = ap (λ l. slice_get l i) (sym a.1) ∙ get_front xs a.0 i x e

pub prefix_shorter : {X : Type 0} (xs : List X) (y : X) (zs : List X) → IsPrefix (xs ++ y ∷ []) zs
    → IsPrefix xs zs
prefix_shorter xs y zs a = ((y ∷ []) ++ a.0, sym (append_assoc xs (y ∷ []) a.0) ∙ a.1)

-- what stands below the length of the front stands in the front
pub get_below : {X : Type 0} (xs ys : List X) (i : ℕ) (x : X) → i < length xs → slice_get (xs ++ ys) i ≡ Some x
    → slice_get xs i ≡ Some x
get_below [] ys i x lt e = absurd (omega arith)
get_below (y ∷ xs) ys zero x lt e = e
get_below (y ∷ xs) ys (suc i) x lt e = get_below xs ys i x (omega arith) e

-- of two prefixes of one list one is a prefix of the other
pub prefix_either : {X : Type 0} (xs ys zs : List X) → IsPrefix xs zs → IsPrefix ys zs → length xs ≤ length ys
    → IsPrefix xs ys
prefix_either [] ys zs a b le = (ys, refl)
prefix_either (x ∷ xs) [] zs a b le = absurd (omega arith)
prefix_either (x ∷ xs) (y ∷ ys) [] a b le = cc
prefix_either (x ∷ xs) (y ∷ ys) (z ∷ zs) a b le =
    let p : x ∷ (xs ++ a.0) ≡ z ∷ zs = a.1 in
    let q : y ∷ (ys ++ b.0) ≡ z ∷ zs = b.1 in
    let heads : x ≡ y = cc in
    let tail_a : xs ++ a.0 ≡ zs = cc in
    let tail_b : ys ++ b.0 ≡ zs = cc in
    let r = prefix_either xs ys zs (a.0, tail_a) (b.0, tail_b) (omega arith) in
    (r.0, λ i. heads i ∷ r.1 i)

-- ---- each item

pub all_map : {X : Type 0} (P Q : X → Type 0) → ((x : X) → P x → Q x) → (xs : List X) → AllByRecursion P xs
    → AllByRecursion Q xs
all_map P Q f [] all = tt
all_map P Q f (x ∷ xs) all = (f x all.0, all_map P Q f xs all.1)

-- the same, where the fact may use that the writer stands in the list
pub all_by : (P Q : Stamped → Type 0) (xs : List Stamped)
    → ((x : Stamped) → has_name (map (λ p. p.by) (map forget xs)) x.by ≡ true → P x → Q x) → AllByRecursion P xs
    → AllByRecursion Q xs
all_by P Q [] f all = tt
all_by P Q (x ∷ xs) f all = (
  f x (or_left _ _ (name_self x.by)) all.0,
  all_by P Q xs (λ y h. f y (or_right _ _ h)) all.1,
)

pub all_by_touch : (P Q : Stamped → Type 0) (xs : List Stamped)
    → ((x : Stamped) → has_name (map (λ (p : Stamped). p.by) xs) x.by ≡ true → P x → Q x) → AllByRecursion P xs
    → AllByRecursion Q xs
all_by_touch P Q [] f all = tt
all_by_touch P Q (x ∷ xs) f all =
    (f x (or_left _ _ (name_self x.by)) all.0, all_by_touch P Q xs (λ y h. f y (or_right _ _ h)) all.1)

pub all_end : {X : Type 0} (P : X → Type 0) (xs : List X) (x : X) → AllByRecursion P xs → P x
    → AllByRecursion P (xs ++ x ∷ [])
all_end P [] x all here = (here, tt)
all_end P (y ∷ xs) x all here = (all.0, all_end P xs x all.1 here)

pub all_filter : {X : Type 0} (P : X → Type 0) (test : X → Bool) (xs : List X) → AllByRecursion P xs
    → AllByRecursion P (filter test xs)
all_filter P test [] all = tt
all_filter P test (x ∷ xs) all =
    elim (test x) as (λ t. AllByRecursion P (cond t (x ∷ filter test xs) (filter test xs)))
    [ true ↦ (all.0, all_filter P test xs all.1) | false ↦ all_filter P test xs all.1 ]

-- ---- one pass in another state

module _ {S : Type 0} (f : ℕ → S) (p : ℕ) (x : S) where
  pub revised_here : revised f p x p ≡ x
  revised_here = ap (λ t. cond t x (f p)) (self_eq p)

  pub revised_else : (q : ℕ) → (q ≡ p → ⊥) → revised f p x q ≡ f q
  revised_else q other = ap (λ t. cond t x (f q)) (false_from_ne_true _ (λ e. other (eq_of q p e)))

-- one that comes to the state that it has
pub revised_same : {S : Type 0} (f : ℕ → S) (p q : ℕ) → revised f p (f p) q ≡ f q
revised_same f p q = elim (q == p) as (λ t. (q == p) ≡ t → cond t (f p) (f q) ≡ f q) [
  | true ↦ λ e. ap f (sym (eq_of q p e))
  | false ↦ λ e. refl
] refl

pub all_put : {S : Type 0} (P : ℕ → S → Type 0) (f : ℕ → S) (p : ℕ) (x : S) → P p x
    → ((q : ℕ) → (q ≡ p → ⊥) → P q (f q)) → (q : ℕ) → P q (revised f p x q)
all_put P f p x here rest q = dite (ℕ_discrete q p)
    (λ same. subst (λ k. P k (revised f p x k)) (sym same) (subst (P p) (sym (revised_here f p x)) here))
    (λ other. subst (P q) (sym (revised_else f p x q other)) (rest q other))

-- ---- sums

pub sum_same : (f g : ℕ → ℕ) (n : ℕ) → ((q : ℕ) → q < n → g q ≡ f q) → sum_below g n ≡ sum_below f n
sum_same f g zero each = refl
sum_same f g (suc n) each = λ i. sum_same f g n (λ q lt. each q (omega (arith, lt))) i + each n (omega arith) i

pub sum_le : (f g : ℕ → ℕ) (n : ℕ) → ((q : ℕ) → f q ≤ g q) → sum_below f n ≤ sum_below g n
sum_le f g zero each = omega arith
sum_le f g (suc n) each = let below = sum_le f g n each in let here = each n in omega (arith, below, here)

-- one term has changed
pub sum_but_one : (f g : ℕ → ℕ) (n p : ℕ) → p < n → ((q : ℕ) → (q ≡ p → ⊥) → g q ≡ f q)
    → sum_below g n + f p ≡ sum_below f n + g p
sum_but_one f g zero p lt each = absurd (omega arith)
sum_but_one f g (suc n) p lt each = dite (ℕ_discrete p n)
    (λ same.
    let below : sum_below g n ≡ sum_below f n = sum_same f g n (λ q l. each q (λ e. omega (arith, l, e, same)))
    in
    let a : f p ≡ f n = ap f same in
    let b : g p ≡ g n = ap g same in
    omega (arith, below, a, b))
    (λ other.
    let below : sum_below g n + f p ≡ sum_below f n + g p =
    sum_but_one f g n p (omega (arith, lt, other)) each in
    let here : g n ≡ f n = each n (λ e. other (sym e)) in
    omega (arith, below, here))

pub sum_bound : (f : ℕ → ℕ) (m n : ℕ) → ((q : ℕ) → f q ≤ m) → sum_below f n ≤ n * m
sum_bound f m zero each = omega arith
sum_bound f m (suc n) each =
    let below : sum_below f n ≤ n * m = sum_bound f m n each in
    let here : f n ≤ m = each n in
    let up : suc n * m ≡ n * m + m = suc-mul n m in
    let x : ℕ = n * m in
    let below' : sum_below f n ≤ x = below in
    subst (λ t. sum_below f n + f n ≤ t) (sym up)
    (let r : sum_below f n + f n ≤ x + m = omega (arith, below', here) in r)
