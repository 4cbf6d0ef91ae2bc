-- Words that are numbers.
use Rattle.std.proofs.Common.{◌≡◌, ℕ, List, [], ◌∷◌, Some, slice_get, arith}
use Rattle.std.specs.Str.Parse.{IsNumeral}
use Rattle.std.proofs.lemmas.Str.Parse.{digit_from_value}

-- a plus is no digit
pub no_plus : (text : List ℕ) → slice_get text 0 ≡ Some 43 → IsNumeral 10 text → ⊥
no_plus [] plus digits = cc
no_plus (byte ∷ text) plus digits =
    let range = digit_from_value byte digits.1.0 in
    let is : byte ≡ 43 = cc in
    absurd (omega (arith, range, is))
