-- One item of a list that is another one now.
use Rattle.std.proofs.Common.{◌≡◌, ◌≢◌, ℕ, zero, suc, ◌<◌, List, [], ◌∷◌, length, set, refl, ap, arith, inl, inr}
use Rattle.std.specs.Prelude.{◌⊎◌, Some, slice_get}

pub same_or_not : (n m : ℕ) → (n ≡ m) ⊎ (n ≢ m)
same_or_not zero zero = inl refl
same_or_not zero (suc m) = inr (λ same. absurd (omega (arith, same)))
same_or_not (suc n) zero = inr (λ same. absurd (omega (arith, same)))
same_or_not (suc n) (suc m) = elim (same_or_not n m) [
  | inl same ↦ inl (ap suc same)
  | inr other ↦ inr (λ same. other (omega (arith, same)))
]

module _ {X : Type 0} where
  pub get_set_same : (xs : List X) (i : ℕ) (x : X) → i < length xs → slice_get (set xs i x) i ≡ Some x
  get_set_same [] i x lt = absurd (omega (arith, lt))
  get_set_same (y ∷ ys) zero x lt = refl
  get_set_same (y ∷ ys) (suc i) x lt = get_set_same ys i x (omega (arith, lt))

  pub get_set_other : (xs : List X) (i j : ℕ) (x : X) → j ≢ i → slice_get (set xs i x) j ≡ slice_get xs j
  get_set_other [] i j x ne = refl
  get_set_other (y ∷ ys) zero zero x ne = absurd (ne refl)
  get_set_other (y ∷ ys) zero (suc j) x ne = refl
  get_set_other (y ∷ ys) (suc i) zero x ne = refl
  get_set_other (y ∷ ys) (suc i) (suc j) x ne = get_set_other ys i j x (λ e. ne (ap suc e))
