-- Lists that leave out some elements of others.
use Rattle.std.proofs.Common.{◌≡◌, ◌≢◌, suc, List, [], ◌∷◌, ◌++◌, refl, sym, subst, inl, inr, arith, All, AllPairs, Contains}
use Rattle.std.specs.Prelude.{◌⊎◌}
use Rattle.std.proofs.lemmas.List.Elements.{All-head, All-tail, All-cons, All-append}
use Rattle.std.proofs.lemmas.List.Kept.{AllPairs-cons}

-- the first list has some elements of the second, in their order
abbrev pub IsSublist : {X : Type 0} → List X → List X → Type 0
IsSublist [] ys = Unit {0}
IsSublist (x ∷ xs) [] = ⊥
IsSublist (x ∷ xs) (y ∷ ys) = ((x ≡ y) × IsSublist xs ys) ⊎ IsSublist (x ∷ xs) ys

pub sub_same : {X : Type 0} (xs : List X) → IsSublist xs xs
sub_same [] = tt
sub_same (x ∷ xs) = inl (refl, sub_same xs)

-- elements in front of the second are left out
pub sub_behind : {X : Type 0} (front xs ys : List X) → IsSublist xs ys → IsSublist xs (front ++ ys)
sub_behind [] xs ys sub = sub
sub_behind (z ∷ front) [] ys sub = tt
sub_behind (z ∷ front) (x ∷ xs) ys sub = inr (sub_behind front (x ∷ xs) ys sub)

pub sub_append : {X : Type 0} (xs ys zs ws : List X) → IsSublist xs ys → IsSublist zs ws → IsSublist (xs ++ zs) (ys ++ ws)
sub_append [] ys zs ws first second = sub_behind ys zs ws second
sub_append (x ∷ xs) [] zs ws first second = absurd first
sub_append (x ∷ xs) (y ∷ ys) zs ws first second = elim first as (λ _. IsSublist (x ∷ xs ++ zs) (y ∷ ys ++ ws)) [
  | inl here ↦ inl (here.0, sub_append xs ys zs ws here.1 second)
  | inr later ↦ inr (sub_append (x ∷ xs) ys zs ws later second)
]

-- what holds of all elements of the second holds of those of the first
pub sub_all : {X : Type 0} (P : X → Type 0) (xs ys : List X) → IsSublist xs ys → All P ys → All P xs
sub_all P [] ys sub all = λ k d inside. absurd (omega arith)
sub_all P (x ∷ xs) [] sub all = absurd sub
sub_all P (x ∷ xs) (y ∷ ys) sub all = elim sub as (λ _. All P (x ∷ xs)) [
  | inl here ↦ All-cons P x xs (subst P (sym here.0) (All-head P y ys all)) (sub_all P xs ys here.1 (All-tail P y ys all))
  | inr later ↦ sub_all P (x ∷ xs) ys later (All-tail P y ys all)
]

-- of pairs, those of the first item with each later one
pairs_head : {X : Type 0} (R : X → X → Type 0) (x : X) (xs : List X) → AllPairs R (x ∷ xs) → All (R x) xs
pairs_head R x xs each = λ k d inside. each 0 (suc k) d (omega arith) (omega arith)

pairs_tail : {X : Type 0} (R : X → X → Type 0) (x : X) (xs : List X) → AllPairs R (x ∷ xs) → AllPairs R xs
pairs_tail R x xs each = λ i j d before inside. each (suc i) (suc j) d (omega arith) (omega arith)

-- and what holds of all pairs
pub sub_pairs : {X : Type 0} (R : X → X → Type 0) (xs ys : List X) → IsSublist xs ys → AllPairs R ys → AllPairs R xs
sub_pairs R [] ys sub all = λ i j d before inside. absurd (omega arith)
sub_pairs R (x ∷ xs) [] sub all = absurd sub
sub_pairs R (x ∷ xs) (y ∷ ys) sub all = elim sub as (λ _. AllPairs R (x ∷ xs)) [
  | inl here ↦ AllPairs-cons R x xs
      (sub_all (R x) xs ys here.1 (subst (λ z. All (R z) ys) (sym here.0) (pairs_head R y ys all)))
      (sub_pairs R xs ys here.1 (pairs_tail R y ys all))
  | inr later ↦ sub_pairs R (x ∷ xs) ys later (pairs_tail R y ys all)
]

-- lists without repeats, the second with no element of the first, have no repeats together
pub apart_append : {X : Type 0} (xs ys : List X) → AllPairs (λ a b. a ≢ b) xs → AllPairs (λ a b. a ≢ b) ys
    → All (λ y. Contains xs y → ⊥) ys → AllPairs (λ a b. a ≢ b) (xs ++ ys)
apart_append [] ys first second new = second
apart_append (x ∷ xs) ys first second new =
    AllPairs-cons (λ a b. a ≢ b) x (xs ++ ys)
    (All-append (λ b. x ≢ b) xs ys (pairs_head (λ a b. a ≢ b) x xs first) (λ k d inside same. new k d inside (0, omega arith, same)))
    (apart_append xs ys (pairs_tail (λ a b. a ≢ b) x xs first) second (λ k d inside there. new k d inside (suc there.0, omega (arith, there.1), there.2)))
