-- What stands at a place of a list that was cut, or put behind another one.
use Rattle.std.proofs.Common.{◌≡◌, ℕ, zero, suc, ◌+◌, List, [], ◌∷◌, ◌++◌, length, drop, ◌∙◌, ap, refl, arith}
use Rattle.std.specs.Prelude.{Some, slice_get}

-- of the first list
pub in_front : {X : Type 0} (xs ys : List X) (k : ℕ) (x : X) → slice_get xs k ≡ Some x → slice_get (xs ++ ys) k ≡ Some x
in_front [] ys k x at = cc
in_front (y ∷ xs) ys zero x at = at
in_front (y ∷ xs) ys (suc k) x at = in_front xs ys k x at

-- of the second
pub behind : {X : Type 0} (xs ys : List X) (k n : ℕ) → n ≡ length xs + k → slice_get (xs ++ ys) n ≡ slice_get ys k
behind [] ys k n is = ap (slice_get ys) is ∙ ap (slice_get ys) (omega arith)
behind (x ∷ xs) ys k zero is = absurd (omega (arith, is))
behind (x ∷ xs) ys k (suc n) is = behind xs ys k n (omega (arith, is))

-- of what is left behind a cut
pub dropped : {X : Type 0} (xs : List X) (n k : ℕ) → slice_get (drop n xs) k ≡ slice_get xs (n + k)
dropped xs zero k = let same : k ≡ 0 + k = omega arith in ap (slice_get xs) same
dropped [] (suc n) k = refl
dropped (x ∷ xs) (suc n) k = let same : suc (n + k) ≡ suc n + k = omega arith in dropped xs n k ∙ ap (slice_get (x ∷ xs)) same
