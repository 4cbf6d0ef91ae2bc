-- Lists by their places: where one element is set, images of elements, and sums over them.
use Rattle.std.proofs.Common.{◌≡◌, ℕ, zero, suc, ◌+◌, ◌<◌, ◌≤◌, List, [], ◌∷◌, ◌++◌, map, length, refl, sym, ◌∙◌, ap, arith, inl, inr}
use Rattle.std.specs.Prelude.{◌⊎◌, true, false, ◌==◌, slice_get, slice_set, sum_by, Some}
use Rattle.std.proofs.lemmas.Bool.{true≢false}
use Rattle.std.proofs.lemmas.Bool.Decides.{nat_tests}
use Rattle.std.proofs.lemmas.List.Sums.{sum_by-append}
use Rattle.graph_model.proofs.PlaceLemmas.{some_eq}
use Rattle.graph_model.proofs.TestLemmas.{self_eq, eq_of}

-- ---- one element is set

-- it stands at its place
pub get_set : {X : Type 0} (xs : List X) (i : ℕ) (x : X) → i < length xs → slice_get (slice_set xs i x) i ≡ Some x
get_set [] i x lt = absurd (omega arith)
get_set (y ∷ xs) zero x lt = refl
get_set (y ∷ xs) (suc i) x lt = get_set xs i x (omega arith)

-- the others stay
pub get_set_else : {X : Type 0} (xs : List X) (i j : ℕ) (x : X) → (j == i) ≡ false → slice_get (slice_set xs i x) j ≡ slice_get xs j
get_set_else [] i j x e = refl
get_set_else (y ∷ xs) zero zero x e = absurd (true≢false (sym (self_eq 0) ∙ e))
get_set_else (y ∷ xs) zero (suc j) x e = refl
get_set_else (y ∷ xs) (suc i) zero x e = refl
get_set_else (y ∷ xs) (suc i) (suc j) x e = get_set_else xs i j x (grind (arith, nat_tests))

-- so what stands somewhere is the new one, or stood there
pub set_cases : {X : Type 0} (xs : List X) (i k : ℕ) (x y : X) → i < length xs → slice_get (slice_set xs i x) k ≡ Some y
    → ((k ≡ i) × (x ≡ y)) ⊎ (((k == i) ≡ false) × (slice_get xs k ≡ Some y))
set_cases xs i k x y lt e = elim (k == i) as (λ s. (k == i) ≡ s → ((k ≡ i) × (x ≡ y)) ⊎ (((k == i) ≡ false) × (slice_get xs k ≡ Some y))) [
  | true ↦ λ f. let same : k ≡ i = eq_of k i f in inl (same, some_eq x y (sym (get_set xs i x lt) ∙ ap (slice_get (slice_set xs i x)) (sym same) ∙ e))
  | false ↦ λ f. inr (f, sym (get_set_else xs i k x f) ∙ e)
] refl

-- the images stay, where the new one has the image of the old
pub map_set : {X Y : Type 0} (f : X → Y) (xs : List X) (i : ℕ) (x x' : X) → slice_get xs i ≡ Some x → f x' ≡ f x → map f (slice_set xs i x') ≡ map f xs
map_set f [] i x x' e same = cc
map_set f (y ∷ xs) zero x x' e same = ap (λ z. z ∷ map f xs) (same ∙ ap f (sym (some_eq y x e)))
map_set f (y ∷ xs) (suc i) x x' e same = ap (λ zs. f y ∷ zs) (map_set f xs i x x' e same)

-- ---- images

-- what stands at a place has its image there
pub get_map : {X Y : Type 0} (f : X → Y) (xs : List X) (i : ℕ) (x : X) → slice_get xs i ≡ Some x → slice_get (map f xs) i ≡ Some (f x)
get_map f [] i x e = cc
get_map f (y ∷ xs) zero x e = ap Some (ap f (some_eq y x e))
get_map f (y ∷ xs) (suc i) x e = get_map f xs i x e

-- what stands among the images is one
pub map_get : {X Y : Type 0} (f : X → Y) (xs : List X) (i : ℕ) (y : Y) → slice_get (map f xs) i ≡ Some y → (x : X) × (slice_get xs i ≡ Some x) × (f x ≡ y)
map_get f [] i y e = cc
map_get f (x ∷ xs) zero y e = (x, refl, some_eq (f x) y e)
map_get f (x ∷ xs) (suc i) y e = map_get f xs i y e

-- ---- two lists behind each other

-- what stands in both together stands in one of them
pub append_cases : {X : Type 0} (xs ys : List X) (i : ℕ) (x : X) → slice_get (xs ++ ys) i ≡ Some x → (slice_get xs i ≡ Some x) ⊎ ((m : ℕ) × (slice_get ys m ≡ Some x))
append_cases [] ys i x e = inr (i, e)
append_cases (y ∷ xs) ys zero x e = inl e
append_cases (y ∷ xs) ys (suc i) x e = append_cases xs ys i x e

-- ---- sums

pub sum_cons : {X : Type 0} (f : X → ℕ) (x : X) (xs : List X) → sum_by f (x ∷ xs) ≡ f x + sum_by f xs
sum_cons f x xs = let e = sum_by-append f (x ∷ []) xs in omega (arith, e)

-- a sum grows with one of its terms
pub sum_set : {X : Type 0} (f : X → ℕ) (xs : List X) (i : ℕ) (x x' : X) → slice_get xs i ≡ Some x → f x ≤ f x' → sum_by f xs ≤ sum_by f (slice_set xs i x')
sum_set f [] i x x' e le = cc
sum_set f (y ∷ xs) zero x x' e le =
    let same : f y ≡ f x = ap f (some_eq y x e) in
    let old = sum_cons f y xs in
    let new = sum_cons f x' xs in
    omega (arith, old, new, same, le)
sum_set f (y ∷ xs) (suc i) x x' e le =
    let rest : sum_by f xs ≤ sum_by f (slice_set xs i x') = sum_set f xs i x x' e le in
    let old = sum_cons f y xs in
    let new = sum_cons f y (slice_set xs i x') in
    omega (arith, old, new, rest)

-- a sum over images
pub sum_map : {X Y : Type 0} (f : Y → ℕ) (g : X → Y) (xs : List X) → sum_by f (map g xs) ≡ sum_by (λ x. f (g x)) xs
sum_map f g [] = refl
sum_map f g (x ∷ xs) = sum_cons f (g x) (map g xs) ∙ ap (λ n. f (g x) + n) (sum_map f g xs) ∙ sym (sum_cons (λ y. f (g y)) x xs)
