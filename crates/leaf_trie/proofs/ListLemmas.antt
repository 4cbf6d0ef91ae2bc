-- Lists in parts, and what holds of all of their items.
use Rattle.std.proofs.Common.{◌≡◌, ℕ, zero, suc, ◌+◌, ◌<◌, ◌≤◌, List, [], ◌∷◌, ◌++◌, Option, Some, None, length, take, drop, refl, sym, ◌∙◌, ap, arith, append_assoc}
use Rattle.std.specs.Prelude.{slice_get}
use Rattle.std.specs.List.{AllByRecursion}

module _ {X : Type 0} where
  pub all_map : (P Q : X → Type 0) → ((x : X) → P x → Q x) → (xs : List X) → AllByRecursion P xs → AllByRecursion Q xs
  all_map P Q f [] h = tt
  all_map P Q f (x ∷ xs) h = (f x h.0, all_map P Q f xs h.1)

  pub all_both : (P Q : X → Type 0) (xs : List X) → AllByRecursion P xs → AllByRecursion Q xs → AllByRecursion (λ x. P x × Q x) xs
  all_both P Q [] h k = tt
  all_both P Q (x ∷ xs) h k = ((h.0, k.0), all_both P Q xs h.1 k.1)

  pub all_append : (P : X → Type 0) (xs ys : List X) → AllByRecursion P xs → AllByRecursion P ys → AllByRecursion P (xs ++ ys)
  all_append P [] ys h k = k
  all_append P (x ∷ xs) ys h k = (h.0, all_append P xs ys h.1 k)

  pub all_front : (P : X → Type 0) (xs ys : List X) → AllByRecursion P (xs ++ ys) → AllByRecursion P xs
  all_front P [] ys h = tt
  all_front P (x ∷ xs) ys h = (h.0, all_front P xs ys h.1)

  pub all_back : (P : X → Type 0) (xs ys : List X) → AllByRecursion P (xs ++ ys) → AllByRecursion P ys
  all_back P [] ys h = h
  all_back P (x ∷ xs) ys h = all_back P xs ys h.1

  -- what stands at a place, and what stands behind it
  pub drop_at : (xs : List X) (i : ℕ) (x : X) → slice_get xs i ≡ Some x → drop i xs ≡ x ∷ drop (suc i) xs
  drop_at [] i x e = cc
  drop_at (y ∷ ys) zero x e = let same : y ≡ x = cc in ap (λ z. z ∷ ys) same
  drop_at (y ∷ ys) (suc i) x e = drop_at ys i x e

  -- one place more
  pub take_at : (xs : List X) (i : ℕ) (x : X) → slice_get xs i ≡ Some x → take (suc i) xs ≡ take i xs ++ x ∷ []
  take_at [] i x e = cc
  take_at (y ∷ ys) zero x e = let same : y ≡ x = cc in ap (λ z. z ∷ []) same
  take_at (y ∷ ys) (suc i) x e = ap (λ zs. y ∷ zs) (take_at ys i x e)

  -- what stands before a place, at it, and behind it
  pub cut_at : (xs : List X) (i : ℕ) (x : X) → slice_get xs i ≡ Some x → xs ≡ take i xs ++ x ∷ drop (suc i) xs
  cut_at [] i x e = cc
  cut_at (y ∷ ys) zero x e = let same : y ≡ x = cc in ap (λ z. z ∷ ys) same
  cut_at (y ∷ ys) (suc i) x e = ap (λ zs. y ∷ zs) (cut_at ys i x e)

  pub cut : (xs : List X) (i : ℕ) → xs ≡ take i xs ++ drop i xs
  cut [] zero = refl
  cut [] (suc i) = refl
  cut (y ∷ ys) zero = refl
  cut (y ∷ ys) (suc i) = ap (λ zs. y ∷ zs) (cut ys i)

  pub there_within : (xs : List X) (i : ℕ) (x : X) → slice_get xs i ≡ Some x → i < length xs
  there_within [] i x e = cc
  there_within (y ∷ ys) zero x e = omega arith
  there_within (y ∷ ys) (suc i) x e = omega (arith, there_within ys i x e)

  pub append_none : (xs : List X) → xs ++ [] ≡ xs
  append_none [] = refl
  append_none (x ∷ xs) = ap (λ ys. x ∷ ys) (append_none xs)
