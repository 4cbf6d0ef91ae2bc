-- Lists in parts.
use Rattle.std.proofs.Common.{◌≡◌, ℕ, zero, suc, List, [], ◌∷◌, ◌++◌, length, take, drop, set, refl, ap, arith}
use Rattle.std.specs.Prelude.{Some, slice_get}
use Rattle.std.specs.List.{AllByRecursion}

module _ {X : Type 0} where
  -- what holds of all items holds of those of both parts
  pub all_front : (P : X → Type 0) (xs ys : List X) → AllByRecursion P (xs ++ ys) → AllByRecursion P xs
  all_front P [] ys h = tt
  all_front P (x ∷ xs) ys h = (h.0, all_front P xs ys h.1)

  pub all_back : (P : X → Type 0) (xs ys : List X) → AllByRecursion P (xs ++ ys) → AllByRecursion P ys
  all_back P [] ys h = h
  all_back P (x ∷ xs) ys h = all_back P xs ys h.1

  -- what stands before a place, at it, and behind it
  pub cut_at : (xs : List X) (i : ℕ) (x : X) → slice_get xs i ≡ Some x → xs ≡ take i xs ++ x ∷ drop (suc i) xs
  cut_at [] i x e = cc
  cut_at (y ∷ ys) zero x e = let same : y ≡ x = cc in ap (λ z. z ∷ ys) same
  cut_at (y ∷ ys) (suc i) x e = ap (λ zs. y ∷ zs) (cut_at ys i x e)

  -- the item behind the first part is another one now
  pub set_between : (xs : List X) (x y : X) (ys : List X) (i : ℕ) → length xs ≡ i → set (xs ++ x ∷ ys) i y ≡ xs ++ y ∷ ys
  set_between [] x y ys zero e = refl
  set_between [] x y ys (suc i) e = absurd (omega (arith, e))
  set_between (z ∷ xs) x y ys zero e = absurd (omega (arith, e))
  set_between (z ∷ xs) x y ys (suc i) e = ap (λ zs. z ∷ zs) (set_between xs x y ys i (omega (arith, e)))
