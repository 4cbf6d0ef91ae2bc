-- Lists by their places: what stands where in a part, behind a cut, and with one item more.
use Rattle.std.proofs.Common.{◌≡◌, ℕ, zero, suc, ◌+◌, ◌<◌, List, [], ◌∷◌, ◌++◌, length, take, drop, refl, sym, ◌∙◌, ap, arith, inl, inr}
use Rattle.std.specs.Prelude.{◌⊎◌, slice_get, Option, Some}
use Rattle.std.proofs.lemmas.List.{take-append-drop}

-- two options are the same item's
pub some_eq : {X : Type 0} (x y : X) → ◌≡◌ {A = Option X} (Some x) (Some y) → x ≡ y
some_eq x y e = cc

-- what stands behind a cut stands so much further on in the whole
pub get_drop : {X : Type 0} (n : ℕ) (xs : List X) (i : ℕ) (x : X) → slice_get (drop n xs) i ≡ Some x → slice_get xs (n + i) ≡ Some x
get_drop zero xs i x e = let same : 0 + i ≡ i = omega arith in rw same e
get_drop (suc n) [] i x e = cc
get_drop (suc n) (y ∷ xs) i x e = let at : slice_get xs (n + i) ≡ Some x = get_drop n xs i x e in let same : suc n + i ≡ suc (n + i) = omega arith in rw same at

-- and the other way round
pub get_in_drop : {X : Type 0} (n : ℕ) (xs : List X) (i : ℕ) (x : X) → slice_get xs (n + i) ≡ Some x → slice_get (drop n xs) i ≡ Some x
get_in_drop zero xs i x e = let same : 0 + i ≡ i = omega arith in rw same at e
get_in_drop (suc n) [] i x e = cc
get_in_drop (suc n) (y ∷ xs) i x e = let same : suc n + i ≡ suc (n + i) = omega arith in let at : slice_get (y ∷ xs) (suc (n + i)) ≡ Some x = rw same at e in get_in_drop n xs i x at

-- what stands in the first items stands there in the whole
pub get_take : {X : Type 0} (n : ℕ) (xs : List X) (i : ℕ) (x : X) → slice_get (take n xs) i ≡ Some x → (i < n) × (slice_get xs i ≡ Some x)
get_take zero xs i x e = cc
get_take (suc n) [] i x e = cc
get_take (suc n) (y ∷ xs) zero x e = (omega arith, e)
get_take (suc n) (y ∷ xs) (suc i) x e = let p = get_take n xs i x e in (omega (arith, p.0), p.1)

-- what stands in a list with one item more stood there, or is the new one
pub get_snoc : {X : Type 0} (xs : List X) (x : X) (i : ℕ) (y : X) → slice_get (xs ++ x ∷ []) i ≡ Some y → ((i < length xs) × (slice_get xs i ≡ Some y)) ⊎ ((i ≡ length xs) × (x ≡ y))
get_snoc [] x zero y e = inr (refl, some_eq x y e)
get_snoc [] x (suc i) y e = cc
get_snoc (z ∷ xs) x zero y e = inl (omega arith, e)
get_snoc (z ∷ xs) x (suc i) y e = elim (get_snoc xs x i y e) as (λ _. ((suc i < length (z ∷ xs)) × (slice_get xs i ≡ Some y)) ⊎ ((suc i ≡ length (z ∷ xs)) × (x ≡ y))) [
  | inl p ↦ let below : i < length xs = p.0 in inl (omega arith, p.1)
  | inr p ↦ let same : i ≡ length xs = p.0 in inr (omega arith, p.1)
]

pub get_end : {X : Type 0} (xs : List X) (x : X) → slice_get (xs ++ x ∷ []) (length xs) ≡ Some x
get_end [] x = refl
get_end (z ∷ xs) x = get_end xs x

-- a list by two cuts
drop-drop : {X : Type 0} (n m : ℕ) (xs : List X) → drop m (drop n xs) ≡ drop (n + m) xs
drop-drop zero m xs = let same : 0 + m ≡ m = omega arith in rw same refl
drop-drop (suc n) zero [] = let same : suc n + 0 ≡ suc n = omega arith in rw same refl
drop-drop (suc n) (suc m) [] = let same : suc n + suc m ≡ suc (n + suc m) = omega arith in rw same refl
drop-drop (suc n) m (x ∷ xs) = let same : suc n + m ≡ suc (n + m) = omega arith in rw same (drop-drop n m xs)

pub drop_cut : {X : Type 0} (n m : ℕ) (xs : List X) → drop n xs ≡ take m (drop n xs) ++ drop (n + m) xs
drop_cut n m xs = sym (take-append-drop m (drop n xs)) ∙ ap (λ ys. take m (drop n xs) ++ ys) (drop-drop n m xs)
